pub mod Grouped
pub mod Named
pub mod Stripped
