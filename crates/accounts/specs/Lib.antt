pub mod Told
pub mod Steps
pub mod Lines
pub mod Rest
pub mod Ticks
pub mod Ended
pub mod Events
pub mod Quiet
