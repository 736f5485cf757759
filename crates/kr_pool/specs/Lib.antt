pub mod Collecting
pub mod Handing
pub mod Owning
pub mod Sharing
pub mod Vocabulary
