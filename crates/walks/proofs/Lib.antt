pub mod GroupLaws
pub mod PassLaws
pub mod TableLaws
