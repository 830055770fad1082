pub mod Rules
pub mod Blocks
