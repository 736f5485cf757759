pub mod Identities
pub mod Positions
pub mod Laws
