pub mod Texts
pub mod Joined
pub mod Parameters
