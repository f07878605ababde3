pub mod Listing
pub mod ByLink
