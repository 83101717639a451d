-- The lemmas that the proofs of this crate share.
mod Forms
mod Meanings
mod Steps
