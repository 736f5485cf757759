pub mod Courses
pub mod Refusals
pub mod Stints
