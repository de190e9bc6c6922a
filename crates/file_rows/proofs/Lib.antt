pub mod TestLaws
pub mod PlainLaws
pub mod ReadLaws
pub mod WholeLaws
