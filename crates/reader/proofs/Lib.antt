pub mod Steps
pub mod ExpressionRules
pub mod StatementRules
pub mod EndRules
pub mod ProcedureRules
pub mod ArrayRules
pub mod ImageRules
