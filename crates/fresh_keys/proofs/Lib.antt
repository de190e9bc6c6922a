-- laws for callers
pub mod Runs
-- laws of the functions
pub mod CountLaws
