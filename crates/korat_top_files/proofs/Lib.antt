pub mod Small
pub mod Outcomes
pub mod Chained
pub mod Building
pub mod Told
pub mod Carried
pub mod Posings
pub mod Uniqueness
