pub mod Outcomes
pub mod Shapes
pub mod Simple
pub mod Branches
pub mod Blocks
