-- laws for callers
pub mod TimeLaws
