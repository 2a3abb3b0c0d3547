pub mod Replies
pub mod Begins
pub mod Admitting
