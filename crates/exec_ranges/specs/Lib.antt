pub mod Lined
pub mod Narrowed
pub mod Values
