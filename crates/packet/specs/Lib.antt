-- The root of the specification, in reading order.
pub mod Packets
pub mod Checks
pub mod Rows
pub mod Packet
pub mod Crc
pub mod Reading
pub mod Writing
pub mod Reply
pub mod Refusal
