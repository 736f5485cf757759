pub mod Kept
pub mod Plans
pub mod Perm
pub mod Shown
