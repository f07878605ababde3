pub mod BlankRows
pub mod Texts
