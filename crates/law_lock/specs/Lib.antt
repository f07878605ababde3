pub mod Kept
pub mod Lets
pub mod Without
