pub mod PutLaws
pub mod DriveLaws
pub mod WholeLaws
