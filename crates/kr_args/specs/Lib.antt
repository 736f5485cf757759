pub mod Definition
pub mod Reading
pub mod Sources
pub mod Workers
