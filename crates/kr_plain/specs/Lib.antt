pub mod Plain
pub mod Keys
pub mod Names
