pub mod Outcomes
pub mod Stacks
