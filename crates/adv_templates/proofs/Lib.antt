pub mod Sequences
pub mod Holes
