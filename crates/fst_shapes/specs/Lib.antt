pub mod Preparing
pub mod Makes
pub mod Sides
pub mod Relations
pub mod Shapes
