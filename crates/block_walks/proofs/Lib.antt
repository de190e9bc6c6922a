pub mod AddLaws
pub mod RepeatLaws
