pub mod DomainExamples
pub mod Each
pub mod Examples
pub mod Given
pub mod LongExamples
pub mod Plain
pub mod WellFormed
pub mod Sections
