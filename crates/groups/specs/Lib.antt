-- The root of the specification, in reading order.
pub mod ShortGroups
pub mod Enumerates
pub mod Order
pub mod Groups
pub mod Listing
pub mod Refusal
pub mod Rows
