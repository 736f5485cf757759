pub mod Frame
pub mod Kept
pub mod Frames
pub mod Leads
pub mod Copies
