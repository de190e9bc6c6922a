-- laws for callers
pub mod CodeLaws
