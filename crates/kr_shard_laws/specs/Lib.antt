pub mod Listings
pub mod Law
pub mod Spans
pub mod Theorem
pub mod Entries
pub mod Problems
pub mod Names
