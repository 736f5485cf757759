pub mod Agreeing
pub mod Lookups
pub mod Calls
pub mod Collections
pub mod Expressions
pub mod Statements
pub mod Resolved
