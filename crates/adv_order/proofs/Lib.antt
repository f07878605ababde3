pub mod Chaining
pub mod Ordered
