pub mod Before
pub mod Chosen
pub mod Inside
pub mod Rostered
