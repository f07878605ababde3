pub mod Counts
pub mod Files
pub mod Gathered
pub mod Memory
pub mod Sink
pub mod Source
pub mod Standard
pub mod Status
