pub mod Told
pub mod Keying
