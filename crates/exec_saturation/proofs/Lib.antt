pub mod Columns
pub mod Beside
pub mod Listed
pub mod CellChoices
pub mod KnownCells
pub mod LookCost
