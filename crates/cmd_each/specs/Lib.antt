pub mod Answered
pub mod Each
pub mod Exchange
pub mod Fetching
pub mod Laws
pub mod OneLine
pub mod Run
