pub mod Equal
pub mod Judged
