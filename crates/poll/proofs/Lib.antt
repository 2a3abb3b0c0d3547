pub mod Tables
pub mod Files
pub mod Loads
