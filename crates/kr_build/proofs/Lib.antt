pub mod Meetings
pub mod Walking
pub mod Rows
pub mod Changed
pub mod Below
