pub mod AccessLaws
pub mod DimLaws
pub mod FixedLaws
pub mod KeyColumnLaws
pub mod LeastLaws
pub mod LineLaws
pub mod NarrowLaws
pub mod ValueLaws
