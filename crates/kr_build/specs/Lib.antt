pub mod Extents
pub mod Renewed
pub mod Visits
pub mod Vocabulary
