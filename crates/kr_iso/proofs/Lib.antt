pub mod Moves
pub mod Swaps
pub mod Least
pub mod Drops
pub mod Rows
pub mod Unused
