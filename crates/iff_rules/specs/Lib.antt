pub mod Order
pub mod Rows
pub mod Meaning
pub mod Unique
pub mod References
pub mod Legs
pub mod Load
