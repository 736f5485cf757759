pub mod Ascending
pub mod Foretelling
pub mod Going
pub mod Kept
pub mod Seen
pub mod States
pub mod Vocabulary
