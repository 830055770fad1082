pub mod Own
pub mod Rules
