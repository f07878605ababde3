pub mod Choices
pub mod Counting
pub mod Extending
pub mod Sifting
