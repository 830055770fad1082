pub mod Rules
pub mod Blocks
pub mod Judging
pub mod ProcedureRules
