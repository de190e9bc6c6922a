pub mod WildLaws
