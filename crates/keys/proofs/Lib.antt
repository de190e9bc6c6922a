-- laws for callers
pub mod Lookup
pub mod Fills
pub mod Blocks
-- laws of the functions
pub mod Among
pub mod PlaceLaws
