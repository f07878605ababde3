pub mod Buffers
pub mod GivenLines
pub mod Reading
pub mod Texts
