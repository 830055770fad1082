pub mod PartRules
pub mod ArgumentRules
pub mod StatementRules
