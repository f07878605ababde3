pub mod Passing
pub mod PlainFilter
pub mod Prefilter
