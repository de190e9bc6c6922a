pub mod Blocks
pub mod Hops
