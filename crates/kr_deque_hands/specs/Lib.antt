pub mod Pieces
pub mod Logs
pub mod Turns
pub mod Hands
pub mod Building
pub mod Gathering
