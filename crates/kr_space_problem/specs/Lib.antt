pub mod Posed
pub mod Subjects
