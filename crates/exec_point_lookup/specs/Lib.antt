pub mod Direct
pub mod Known
