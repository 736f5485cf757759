pub mod Nodes
pub mod Touches
pub mod Vocabulary
