pub mod Numbers
pub mod Parses
pub mod Definitions
pub mod Walks
pub mod Sources
pub mod Workers
