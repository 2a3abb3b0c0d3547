-- The root of the specification.
pub mod Leaves
pub mod Prints
