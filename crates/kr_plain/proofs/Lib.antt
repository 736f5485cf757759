pub mod Along
mod Carries
mod Entering
mod Gone
mod Once
mod Whole
pub mod Moving
pub mod Told
