pub mod Worked
pub mod Wraps
