pub mod Cells
pub mod OwnCells
pub mod SpareRuns
pub mod SpareCells
pub mod LongImages
pub mod ByteRequests
pub mod FirstBytes
