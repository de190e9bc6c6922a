pub mod Sheeted
