pub mod Layouts
pub mod Places
