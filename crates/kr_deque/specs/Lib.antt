pub mod Cutting
pub mod Found
pub mod Breaks
pub mod Joined
pub mod Checking
