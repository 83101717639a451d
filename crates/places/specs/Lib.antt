pub mod Numbers
pub mod States
pub mod Faults
pub mod Answers
pub mod Laws
