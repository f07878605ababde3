pub mod Nodes
pub mod Text
pub mod Spelling
pub mod Certificate
pub mod Laws
