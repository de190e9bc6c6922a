pub mod GroupLaws
pub mod PartLaws
pub mod HopLaws
