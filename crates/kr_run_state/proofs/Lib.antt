pub mod Candidates
pub mod Calls
pub mod Growing
mod Members
pub mod Locals
mod Rows
mod Reading
