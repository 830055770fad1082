pub mod Parts
pub mod Rest
pub mod Bodies
