pub mod CardLaws
