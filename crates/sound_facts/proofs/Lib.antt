pub mod RowFacts
pub mod PeriodFacts
pub mod SoundFacts
