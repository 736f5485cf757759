pub mod Sets
pub mod Found
