pub mod CountLaws
pub mod StrayLaws
