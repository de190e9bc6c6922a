pub mod Agree
pub mod Company
