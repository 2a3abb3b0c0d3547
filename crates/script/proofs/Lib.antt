pub mod Walks
pub mod Spelling
pub mod Storing
pub mod Placing
pub mod Decimals
