pub mod Choices
pub mod Objects
pub mod Laws
pub mod Unused
pub mod Swap
pub mod Rows
