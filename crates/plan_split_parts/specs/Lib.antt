pub mod Parts
pub mod Closing
pub mod Fronts
pub mod Sifting
pub mod Signed
