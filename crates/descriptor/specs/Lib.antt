-- The root of the specification, in reading order.
pub mod Example
pub mod Walk
pub mod Reply
pub mod Rows
pub mod Answers
pub mod Whole
