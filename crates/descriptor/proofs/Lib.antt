pub mod Answered
pub mod Walking
pub mod Replying
