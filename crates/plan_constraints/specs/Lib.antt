pub mod Solutions
pub mod Nodes
pub mod PartConstraints
pub mod Soft
pub mod Table
pub mod Reach
