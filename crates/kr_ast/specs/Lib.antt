pub mod Tree
pub mod Grow
pub mod Arena
pub mod Files
pub mod Forest
pub mod Entries
