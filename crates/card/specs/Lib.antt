pub mod Limits
pub mod Loads
pub mod Laws
pub mod Faults
pub mod Checking
