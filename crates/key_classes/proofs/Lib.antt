pub mod ClassLaws
pub mod RowLaws
