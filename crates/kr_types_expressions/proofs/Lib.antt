pub mod Single
pub mod Meanings
pub mod Asking
pub mod Notes
pub mod Gathering
