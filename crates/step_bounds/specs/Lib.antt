pub mod Counting
pub mod Capping
pub mod Ranks
pub mod Summaries
