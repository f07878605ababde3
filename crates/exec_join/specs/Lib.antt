pub mod Walk
pub mod Beside
pub mod Choosing
pub mod Costs
pub mod Remaining
pub mod Repeats
pub mod Along
pub mod Joining
