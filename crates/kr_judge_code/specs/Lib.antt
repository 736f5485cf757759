pub mod Compiled
pub mod Lines
pub mod Olds
pub mod Vocabulary
