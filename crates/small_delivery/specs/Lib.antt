pub mod Text
pub mod Delivery
pub mod Opened
pub mod Claims
pub mod Shown
pub mod Check
pub mod Stored
