pub mod Listed
pub mod Extended
pub mod Passes
pub mod Judgements
pub mod Started
pub mod Counted
