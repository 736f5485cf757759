pub mod Covers
pub mod Halved
pub mod Turns
pub mod Carrying
pub mod Rings
pub mod Draining
pub mod Made
pub mod Scanned
