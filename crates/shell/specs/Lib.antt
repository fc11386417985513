pub mod Turns
pub mod Went
pub mod Shell
pub mod Kept
pub mod Roomy
pub mod Reached
