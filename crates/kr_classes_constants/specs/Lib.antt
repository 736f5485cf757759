pub mod Outcomes
pub mod Frames
pub mod Kept
