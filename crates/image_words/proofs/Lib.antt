pub mod ListRules
pub mod SkipRules
