pub mod Named
pub mod Unnamed
pub mod Told
pub mod Within
pub mod Signing
pub mod Following
pub mod Thinning
pub mod Asking
pub mod Classing
pub mod Choosing
pub mod Streaming
mod Placed
