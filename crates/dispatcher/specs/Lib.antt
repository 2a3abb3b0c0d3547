-- The root of the specification, in reading order.
pub mod Dispatcher
pub mod Events
