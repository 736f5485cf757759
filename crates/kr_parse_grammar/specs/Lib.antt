pub mod TokenMeanings
pub mod Values
pub mod Grammar
pub mod Terminals
pub mod Made
pub mod Machine
pub mod RuleTable
pub mod State
