pub mod Repeats
pub mod Asking
