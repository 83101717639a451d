-- The definitions that the contracts of this crate cite.
pub mod Letters
pub mod Kinds
pub mod Written
pub mod Parts
pub mod Meanings
