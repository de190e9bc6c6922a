pub mod Once
pub mod Tally
