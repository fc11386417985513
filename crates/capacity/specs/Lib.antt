pub mod Calls
pub mod Went
pub mod Reached
