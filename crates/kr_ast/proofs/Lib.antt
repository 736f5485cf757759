pub mod Grown
pub mod Trees
pub mod Texts
pub mod Adopted
pub mod Roots
pub mod Put
pub mod ShortEntries
