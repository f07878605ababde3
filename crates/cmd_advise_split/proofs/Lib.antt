pub mod Texts
pub mod Progress
pub mod Ended
pub mod Taken
pub mod Widths
pub mod Known
