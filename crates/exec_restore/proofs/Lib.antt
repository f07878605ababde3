pub mod CellKinds
pub mod ListedTuples
pub mod PlanBoxes
pub mod RangeLaws
