pub mod Numbers
pub mod Chains
pub mod Spelled
pub mod Added
pub mod PrintedLines
pub mod TakenBack
