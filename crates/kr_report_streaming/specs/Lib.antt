pub mod Lines
pub mod Writers
pub mod Tallies
pub mod Traces
pub mod Worked
pub mod Followed
