pub mod Example
pub mod Worked
pub mod Marked
pub mod Witness
pub mod Telling
pub mod Stretching
pub mod Remainders
