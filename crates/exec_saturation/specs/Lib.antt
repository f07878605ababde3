pub mod Saturated
pub mod Known
pub mod Looking
