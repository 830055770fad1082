pub mod ContractRules
