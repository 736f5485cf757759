pub mod Kinds
pub mod MeaningLists
pub mod Programs
pub mod Refusals
pub mod Sites
pub mod Vocabulary
