pub mod LeafRules
pub mod ExpressionRules
pub mod StatementRules
pub mod BlockRules
pub mod MarkRules
pub mod MarkTable
pub mod ProcedureRules
