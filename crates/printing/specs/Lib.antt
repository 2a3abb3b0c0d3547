-- The root of the specification.
pub mod Hex
