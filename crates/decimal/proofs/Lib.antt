-- The lemmas that the proofs of this crate share.
pub mod Exactly
pub mod Forms
pub mod Lines
