pub mod Printed
pub mod PrintedParts
pub mod Pieces
pub mod Laws
