-- laws for callers
pub mod AskedLaws
