pub mod Order
pub mod Entries
pub mod Rows
pub mod Fields
pub mod Lone
pub mod Tiers
