pub mod NodeLists
pub mod Found
pub mod Seen
pub mod Walk
pub mod Entries
pub mod Reach
pub mod Touched
