pub mod Accepted
pub mod Cutting
pub mod Keys
pub mod Narrowed
pub mod Least
pub mod Ranges
pub mod Laws
