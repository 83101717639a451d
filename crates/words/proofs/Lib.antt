-- The lemmas that the proofs of this crate share.
pub mod Forms
pub mod Numbers
mod Progress
