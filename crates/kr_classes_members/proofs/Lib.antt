pub mod Classes
pub mod Upwards
pub mod Names
pub mod Sections
pub mod Found
