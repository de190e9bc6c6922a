pub mod Agree
pub mod Sides
