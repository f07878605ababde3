pub mod CellLines
pub mod KeptCells
pub mod LineTexts
pub mod StateLines
