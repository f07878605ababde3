pub mod GivenEnds
pub mod GivenLines
pub mod LineTexts
pub mod Pieces
pub mod Places
mod Refills
pub mod Steps
pub mod TextLines
mod LinesAhead
