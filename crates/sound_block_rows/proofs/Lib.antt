pub mod TestLaws
pub mod RowLaws
