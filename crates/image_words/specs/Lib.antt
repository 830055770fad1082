pub mod Kinds
pub mod Limits
pub mod Read
pub mod Parts
pub mod StatementParts
pub mod Skipping
pub mod Rest
