pub mod VerdictRules
