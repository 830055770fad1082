pub mod Rules
pub mod Arguments
