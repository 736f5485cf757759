pub mod Made
pub mod Rows
pub mod Tabled
pub mod Vocabulary
