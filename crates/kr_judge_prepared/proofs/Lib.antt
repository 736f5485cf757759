pub mod Coded
pub mod Laid
pub mod Rows
