pub mod LegLaws
pub mod LineLaws
pub mod TestsLaws
pub mod MeetsLaws
