pub mod Listed
pub mod Shown
pub mod ListedTypes
pub mod Types
pub mod Numbers
