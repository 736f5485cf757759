pub mod Makings
pub mod Refusals
pub mod TypeNames
pub mod Vocabulary
pub mod Writers
