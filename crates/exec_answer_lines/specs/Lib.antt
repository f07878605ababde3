pub mod Copies
pub mod Digits
pub mod Gathering
pub mod Keeping
