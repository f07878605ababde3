-- What the contracts of `lib_c_interface` cite.
pub mod Owning
pub mod Lending
pub mod Exports
