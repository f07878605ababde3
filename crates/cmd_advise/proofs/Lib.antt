pub mod Texts
pub mod LineLaws
pub mod Progress
pub mod Ended
