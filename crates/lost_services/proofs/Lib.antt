pub mod LostLaws
