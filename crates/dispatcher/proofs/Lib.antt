pub mod Mapped
pub mod Rounds
pub mod Rooms
pub mod Turning
pub mod Passing
pub mod Bound
