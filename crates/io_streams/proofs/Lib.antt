pub mod Gathering
pub mod KnownReads
pub mod KnownWrites
pub mod Writing
