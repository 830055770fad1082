pub mod Rules
pub mod Image
pub mod CheckedRules
