pub mod ServiceDay
pub mod Points
