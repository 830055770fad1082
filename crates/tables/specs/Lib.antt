pub mod Table
pub mod Segments
pub mod Filling
pub mod Looking
