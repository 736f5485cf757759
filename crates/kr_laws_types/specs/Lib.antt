pub mod Types
pub mod Shapes
pub mod Expressions
pub mod Running
pub mod Typed
pub mod DerivedExpressions
pub mod Derivation
