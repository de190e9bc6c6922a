pub mod BestLaws
pub mod VerdictLaws
