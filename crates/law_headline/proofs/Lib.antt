pub mod AdviseEnds
pub mod Headlines
