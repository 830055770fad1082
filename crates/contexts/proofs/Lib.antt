pub mod Sight
pub mod Passing
