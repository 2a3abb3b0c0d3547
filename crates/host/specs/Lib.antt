-- The root of the specification, in reading order.
pub mod Refusal
pub mod Reply
pub mod Fields
pub mod Controller
pub mod Submit
pub mod Turn
pub mod Start
pub mod Rows
pub mod Cases
