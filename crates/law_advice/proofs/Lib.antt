pub mod Agreement
pub mod Found
pub mod Judged
pub mod Locking
pub mod MoreNamed
pub mod Standing
pub mod StrictStart
pub mod ToldChanges
