pub mod CellRules
pub mod ArgumentRules
