pub mod Buildable
pub mod Builders
pub mod Emitted
pub mod Worked
