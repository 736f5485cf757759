pub mod Declared
pub mod Targets
