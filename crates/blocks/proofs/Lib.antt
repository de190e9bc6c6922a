pub mod DriveLaws
pub mod ReadLaws
pub mod WholeLaws
pub mod SizeLaws
