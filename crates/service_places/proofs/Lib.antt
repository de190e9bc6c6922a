pub mod BlockLaws
pub mod PlaceLaws
