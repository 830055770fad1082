pub mod Words
pub mod Shapes
pub mod Whole
