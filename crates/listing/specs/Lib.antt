pub mod Way
pub mod Moves
pub mod Listed
pub mod Swept
pub mod Tells
pub mod Acts
pub mod Ends
