pub mod RowLaws
pub mod SpanLaws
