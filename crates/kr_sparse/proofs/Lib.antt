pub mod Paged
pub mod Numbers
