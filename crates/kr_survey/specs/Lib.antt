pub mod Ascents
pub mod Joins
pub mod Scans
pub mod Spans
pub mod Listings
pub mod Takings
pub mod Mapping
