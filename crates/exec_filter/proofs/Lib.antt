pub mod PassingOn
pub mod PlainFilters
pub mod PrefilterLaws
