pub mod AmendLaws
