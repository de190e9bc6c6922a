pub mod FieldLaws
pub mod VectorLaws
pub mod RowLaws
pub mod FileLaws
