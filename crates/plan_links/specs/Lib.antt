pub mod BasisValue
pub mod PartDistancesValue
pub mod Known
pub mod Redundant
pub mod Sifting
pub mod Refs
pub mod Placed
