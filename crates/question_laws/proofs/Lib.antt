pub mod OwnDay
pub mod CardRanks
