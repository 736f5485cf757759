pub mod Built
pub mod Chain
