pub mod Tables
pub mod Walking
