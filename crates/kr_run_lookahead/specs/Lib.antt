pub mod Ahead
pub mod Flows
pub mod Leaving
