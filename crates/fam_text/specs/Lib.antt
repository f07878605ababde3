pub mod Blank
pub mod Answer
pub mod Text
