pub mod Drive
pub mod Whole
