pub mod Left
pub mod Found
