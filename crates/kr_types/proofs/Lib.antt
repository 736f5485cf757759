pub mod Making
pub mod Passing
pub mod Meant
pub mod Absent
pub mod Single
pub mod Faults
pub mod Located
pub mod Named
