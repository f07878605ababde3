pub mod Headline
pub mod Plain
pub mod Strict
