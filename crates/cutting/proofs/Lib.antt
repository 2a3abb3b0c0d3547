pub mod Next
pub mod Lengths
pub mod Cutting
pub mod Table
pub mod Rules
pub mod Retiring
pub mod Filled
