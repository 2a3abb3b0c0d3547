pub mod Walking
pub mod Putting
pub mod Deciding
pub mod ReadBack
pub mod ByEntry
