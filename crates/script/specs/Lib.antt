pub mod Lines
pub mod Typed
pub mod Bytes
pub mod Numbers
pub mod Parts
pub mod Text
