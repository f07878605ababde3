pub mod Judged
pub mod Certifying
pub mod Certified
pub mod Checking
pub mod Collecting
pub mod Laws
pub mod Agreement
