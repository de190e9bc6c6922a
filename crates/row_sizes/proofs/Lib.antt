pub mod LineLaws
pub mod SizeLaws
