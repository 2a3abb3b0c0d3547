-- What a reader has to believe, in reading order.
pub mod Fields
pub mod Datasheet
pub mod Received
pub mod Armed
pub mod Writes
pub mod Sends
pub mod ControlStages
pub mod PacketRules
pub mod AllOpen
pub mod Wakes
pub mod HandsBack
pub mod Enables
pub mod PipeStates
pub mod Stores
pub mod KeepsBytes
pub mod Toggles
-- Reading aids: one transfer, and the toggle under both desk rules, computed.
pub mod Example
pub mod TwoRules
