pub mod Items
pub mod Leasts
pub mod Whole
pub mod Names
pub mod Ordered
