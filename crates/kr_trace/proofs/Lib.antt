pub mod Spaces
pub mod Keys
pub mod Searches
pub mod Folds
pub mod Sections
pub mod Logs
pub mod Taken
pub mod Numbered
pub mod Chains
pub mod Views
pub mod Opened
pub mod Replays
mod Examples
