pub mod Outer
pub mod Ends
pub mod Pairs
pub mod SplitParts
pub mod Listed
pub mod Laws
