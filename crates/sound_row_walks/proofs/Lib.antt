pub mod UsedLaws
mod WalkLaws
