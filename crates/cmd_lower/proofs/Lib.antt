pub mod Found
pub mod Lowered
pub mod OneOutcome
pub mod Texts
pub mod Written
