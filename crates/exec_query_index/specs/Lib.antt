pub mod Boxes
pub mod Buckets
