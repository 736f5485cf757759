pub mod Gathering
pub mod Marks
pub mod Rows
pub mod Walking
