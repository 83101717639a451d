pub mod Cards
pub mod Calls
pub mod Refused
