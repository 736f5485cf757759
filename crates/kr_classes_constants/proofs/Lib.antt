pub mod Places
pub mod Rules
pub mod Sorting
pub mod Orders
pub mod Listed
pub mod Written
