pub mod Exactly
pub mod Longest
pub mod Next
pub mod Standing
pub mod TextKinds
pub mod TokenLists
