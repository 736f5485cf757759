pub mod Listings
pub mod Logs
pub mod Searched
