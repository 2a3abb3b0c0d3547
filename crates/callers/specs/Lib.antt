-- The root of the specification.
pub mod Lines
