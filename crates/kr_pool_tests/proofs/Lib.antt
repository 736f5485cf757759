pub mod Ahead
pub mod Two
