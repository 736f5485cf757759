pub mod Declared
pub mod Maybe
pub mod Vocabulary
