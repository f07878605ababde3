pub mod Left
pub mod Sums
pub mod TextLines
