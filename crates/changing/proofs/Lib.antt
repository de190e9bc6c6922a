pub mod ZoneLaws
pub mod HurdleLaws
pub mod CoreLaws
pub mod AskLaws
