pub mod Sides
pub mod Breaking
pub mod Conditions
pub mod Listed
pub mod Numbers
pub mod Part
pub mod Streams
pub mod Laws
