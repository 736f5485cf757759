pub mod Answers
pub mod Statements
pub mod Unwinding
