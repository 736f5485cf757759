pub mod Items
pub mod Stretches
pub mod Bounds
pub mod Tables
pub mod Layouts
pub mod Shapes
pub mod Numbers
pub mod Marks
