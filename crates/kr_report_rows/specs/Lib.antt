pub mod Parts
pub mod Stretches
pub mod Vocabulary
pub mod Worked
pub mod Written
