-- The root of the specification, in reading order.
pub mod Example
pub mod ReadsBack
pub mod ByEntry
pub mod Exported
pub mod Export
pub mod Walk
