pub mod Noting
pub mod Shown
pub mod Worlds
pub mod Actions
pub mod Ends
pub mod Collecting
pub mod Rows
pub mod Reading
