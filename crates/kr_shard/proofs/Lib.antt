pub mod Orders
pub mod Joins
pub mod Fronts
pub mod Told
pub mod Joined
pub mod Pieces
