pub mod Cut
pub mod Rules
pub mod Counters
pub mod Left
pub mod Retire
pub mod Table
