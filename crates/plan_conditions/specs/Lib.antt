pub mod Deciding
pub mod DomainBounds
