pub mod FieldLaws
pub mod SeenLaws
