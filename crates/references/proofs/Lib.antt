pub mod References
pub mod WildcardLaws
