pub mod State
pub mod Limited
pub mod Steps
pub mod Splitting
pub mod Finding
pub mod Reading
pub mod Text
