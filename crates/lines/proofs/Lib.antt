-- The lemmas that the proofs of this crate share.
pub mod Lines
pub mod Steps
pub mod Runs
