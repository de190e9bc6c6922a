-- laws for callers
pub mod OnceLaws
pub mod FirstLaws
pub mod KeptLaws
pub mod BlockLaws
pub mod LineLaws
