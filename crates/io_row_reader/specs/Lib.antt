pub mod Ahead
pub mod Counted
pub mod Indexed
pub mod Open
pub mod Plain
pub mod ReadFields
pub mod Short
