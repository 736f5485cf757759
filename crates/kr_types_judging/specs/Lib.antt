pub mod Arguments
pub mod Classes
pub mod Numbers
pub mod Shown
pub mod Vocabulary
