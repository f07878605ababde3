-- The lemmas of `lib_session`.
pub mod FirstLines
pub mod Feeding
pub mod Fronts
pub mod Pieces
pub mod Takings
