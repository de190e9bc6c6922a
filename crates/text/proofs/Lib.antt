pub mod LineLaws
pub mod CutLaws
pub mod PictureLaws
pub mod ValueLaws
pub mod PackLaws
