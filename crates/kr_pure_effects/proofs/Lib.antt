pub mod Finitized
pub mod Found
pub mod Parts
pub mod Read
pub mod Scanning
pub mod Overridden
