-- The definitions that the contracts of this crate cite.
pub mod Faults
pub mod Equipments
pub mod Cards
pub mod Entries
pub mod Stages
pub mod Rules
pub mod Follows
pub mod Laws
