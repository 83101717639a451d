pub mod Grams
pub mod Lines
pub mod Triples
pub mod Running
