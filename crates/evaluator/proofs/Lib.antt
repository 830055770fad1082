pub mod Leaves
pub mod Rules
