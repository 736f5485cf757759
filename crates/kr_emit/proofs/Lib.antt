pub mod Lines
pub mod FieldsAt
pub mod Named
pub mod Faults
pub mod Numbered
pub mod Answered
