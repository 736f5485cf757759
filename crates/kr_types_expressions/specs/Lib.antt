pub mod Constructors
pub mod Links
pub mod Notes
pub mod Parts
pub mod Vocabulary
