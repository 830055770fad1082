pub mod Cases
pub mod Values
pub mod Descriptions
pub mod Previews
pub mod Indices
pub mod Numbering
pub mod Comparisons
pub mod StepBounds
