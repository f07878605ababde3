pub mod Against
pub mod AsNext
pub mod Passing
pub mod Solutions
