pub mod Sound
pub mod Continuing
pub mod Small
pub mod Restores
pub mod Reached
