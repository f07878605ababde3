pub mod Formed
pub mod Finding
pub mod Lowering
pub mod Found
pub mod Text
