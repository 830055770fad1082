pub mod Steps
pub mod ImageRules
