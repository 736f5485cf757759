pub mod TwoNodes
pub mod OneCell
