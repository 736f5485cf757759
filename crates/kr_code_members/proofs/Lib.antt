pub mod Zipped
pub mod Scopes
pub mod Items
pub mod Signed
pub mod Declaring
pub mod Constructing
pub mod Nested
pub mod Tables
