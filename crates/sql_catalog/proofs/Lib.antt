pub mod Catalogs
pub mod ColumnDomains
pub mod ColumnNames
pub mod Fields
pub mod NamedFronts
pub mod NamedShapes
pub mod RowRefusals
