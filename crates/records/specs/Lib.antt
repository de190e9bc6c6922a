pub mod Layouts
pub mod Facts
