-- The definitions that the contracts of this crate cite.
pub mod Laws
pub mod Numbers
pub mod Readings
