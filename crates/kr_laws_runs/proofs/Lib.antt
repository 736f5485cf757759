pub mod Overriders
pub mod Respects
pub mod Bounds
