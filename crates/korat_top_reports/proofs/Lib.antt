pub mod Classes
pub mod Sharding
pub mod Ends
pub mod Reporting
