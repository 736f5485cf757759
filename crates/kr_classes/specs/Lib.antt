pub mod Faults
pub mod Refusals
pub mod Overriding
pub mod MemberRules
pub mod ClassTables
