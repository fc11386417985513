pub mod Put
pub mod Line
pub mod Room
pub mod Digits
pub mod Lines
pub mod Laws
pub mod Wide
pub mod Accounts
