pub mod Ordered
pub mod Marked
pub mod Pushed
