pub mod Sorted
pub mod Owned
pub mod Boxed
pub mod Capped
pub mod Classed
pub mod Fitted
mod Equalities
pub mod Opened
pub mod Softly
pub mod SetStreams
pub mod MadePlans
pub mod HullLaws
pub mod Listed
pub mod Systems
pub mod Rebased
pub mod Told
pub mod Cheaper
mod FewParts
