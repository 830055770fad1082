pub mod Late
pub mod Cursors
pub mod Enclosing
pub mod Operand
pub mod Walk
pub mod Blocks
pub mod Places
