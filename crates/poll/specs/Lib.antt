-- The root of the specification, in reading order.
pub mod Loads
pub mod Table
pub mod Reply
pub mod File
pub mod Loaded
pub mod Rows
