pub mod Scanned
pub mod Marking
