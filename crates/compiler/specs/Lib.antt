pub mod Compile
pub mod Kept
