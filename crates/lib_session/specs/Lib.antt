-- What the contracts of `lib_session` cite.
pub mod Seen
pub mod Fed
pub mod Embedded
pub mod Laws
