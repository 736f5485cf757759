pub mod Classes
pub mod Entries
pub mod ObjectDomains
pub mod Parameters
pub mod Spans
pub mod Vocabulary
pub mod Widths
