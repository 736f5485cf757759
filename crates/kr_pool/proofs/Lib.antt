pub mod Collected
pub mod Handed
pub mod Owned
pub mod Seated
