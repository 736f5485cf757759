pub mod Accepting
pub mod Fields
pub mod Preparing
pub mod Tested
