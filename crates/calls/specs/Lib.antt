pub mod Parts
pub mod Acts
