pub mod Filling
pub mod Stops
