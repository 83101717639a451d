pub mod Stores
pub mod Rules
pub mod Laws
pub mod Faults
pub mod Answers
