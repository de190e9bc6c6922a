pub mod RowLaws
pub mod LineLaws
pub mod BlockLaws
pub mod Cases
