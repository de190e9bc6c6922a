pub mod Blocks
pub mod Lookup
pub mod Places
