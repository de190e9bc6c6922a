pub mod Flat
pub mod Begun
