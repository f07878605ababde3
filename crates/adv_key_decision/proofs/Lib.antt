pub mod AllParts
pub mod OneClass
pub mod KeyPlaces
pub mod Followed
