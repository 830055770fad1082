pub mod TurnRules
pub mod CallRules
pub mod MachineRules
