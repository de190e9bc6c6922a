pub mod RowLaws
pub mod ContextLaws
