pub mod Laws
pub mod OneField
