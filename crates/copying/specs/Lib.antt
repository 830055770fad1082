pub mod Copy
pub mod Laws
pub mod Runs
