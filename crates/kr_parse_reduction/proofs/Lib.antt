pub mod Stacks
pub mod Roots
pub mod Planned
pub mod Stays
