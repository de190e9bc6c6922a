pub mod SignLaws
pub mod WordLaws
