pub mod Wants
pub mod Bounds
