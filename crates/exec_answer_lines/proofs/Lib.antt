mod Fronts
pub mod Gathering
mod Tails
mod ThreeDigits
