pub mod EnclosingRules
pub mod SumRules
pub mod OperandRules
pub mod ExpressionRules
pub mod LeafRules
pub mod LoopRules
pub mod StatementRules
pub mod ProcedureRules
