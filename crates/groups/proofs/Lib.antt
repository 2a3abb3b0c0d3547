pub mod Lists
pub mod Collecting
pub mod Shapes
pub mod Grammar
pub mod Table
pub mod ShortGroups
pub mod Above
