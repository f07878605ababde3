pub mod OneOrder
pub mod RowsAlone
