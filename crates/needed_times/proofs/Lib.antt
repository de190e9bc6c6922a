pub mod NeededLaws
