pub mod TestLaws
pub mod StepLaws
