-- laws of the definitions of tables, over any width
pub mod Each
pub mod Widths
pub mod Rows
pub mod Filled
pub mod Put
pub mod Puts
pub mod Keys
pub mod First
-- laws of the loops
pub mod Rest
pub mod Search
pub mod Zeros
