pub mod Commands
pub mod Creations
pub mod Ending
pub mod Ends
pub mod Given
pub mod Laws
pub mod Script
pub mod Texts
