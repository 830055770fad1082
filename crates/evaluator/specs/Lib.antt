pub mod Cells
pub mod CellLaws
pub mod Evaluation
pub mod Results
