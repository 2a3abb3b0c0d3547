-- The root of the specification, in reading order.
pub mod Example
pub mod Turns
pub mod Frames
pub mod Calls
pub mod Callers
pub mod Table
pub mod Shown
pub mod HostCalls
pub mod Driven
pub mod Ties
