pub mod Classes
pub mod Told
pub mod Keeping
pub mod Exchanged
pub mod Without
