pub mod Errors
pub mod Serve
