pub mod HashLaws
pub mod FlatLaws
pub mod WalkLaws
pub mod WholeLaws
