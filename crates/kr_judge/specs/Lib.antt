pub mod Columns
pub mod Follows
pub mod Judged
pub mod One
pub mod Orders
pub mod Predicates
pub mod Runs
pub mod Vocabulary
