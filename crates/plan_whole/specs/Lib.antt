pub mod Closed
pub mod Columns
pub mod Asked
pub mod Classes
pub mod Extremes
pub mod Streams
pub mod Places
