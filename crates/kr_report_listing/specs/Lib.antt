pub mod Listed
pub mod Runs
pub mod Searched
pub mod Traced
