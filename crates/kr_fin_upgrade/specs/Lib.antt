pub mod Upgraded
pub mod Shown
pub mod Tables
pub mod Documents
pub mod Laws
pub mod Examples
