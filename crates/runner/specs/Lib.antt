pub mod Runs
pub mod Callees
pub mod Executions
