pub mod Bytes
pub mod Candidates
pub mod Groups
pub mod Hints
