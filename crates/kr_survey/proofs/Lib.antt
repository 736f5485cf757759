pub mod Walks
pub mod Ascending
pub mod Scanning
pub mod Mapping
