pub mod KindLaws
pub mod RowLaws
