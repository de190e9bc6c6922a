pub mod Tests
pub mod Plain
