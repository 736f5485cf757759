pub mod Tables
pub mod Steps
pub mod Collections
pub mod Doing
pub mod Resolved
