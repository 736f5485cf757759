pub mod Ends
pub mod Holding
pub mod Orders
mod Follows
pub mod Programs
mod Spots
pub mod Starts
