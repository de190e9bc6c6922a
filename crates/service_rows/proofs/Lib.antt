pub mod StopLaws
pub mod LieLaws
