pub mod ReplaceLaws
