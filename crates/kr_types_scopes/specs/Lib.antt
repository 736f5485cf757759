pub mod Settings
pub mod Changes
pub mod Tasks
pub mod Newest
pub mod Scoped
pub mod Noting
pub mod Lookups
pub mod Kept
