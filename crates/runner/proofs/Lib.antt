pub mod BlockRules
pub mod BranchRules
pub mod CallRules
pub mod RunRules
