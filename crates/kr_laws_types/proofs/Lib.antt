pub mod Given
pub mod Expressions
pub mod Loops
pub mod Typed
pub mod Shapes
pub mod Predefined
