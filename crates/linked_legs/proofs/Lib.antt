-- laws for callers
pub mod RowLaws
pub mod LinkingLaws
