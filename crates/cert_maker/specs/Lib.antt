pub mod Made
pub mod Tree
pub mod Leaf
