pub mod Unnamed
pub mod Numbered
pub mod Told
pub mod Two
pub mod ByDomains
