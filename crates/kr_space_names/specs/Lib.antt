pub mod Collected
pub mod Meanings
pub mod Numbers
pub mod Texts
pub mod Vocabulary
pub mod Walks
