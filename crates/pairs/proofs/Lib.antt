pub mod LaterLaws
mod RowLaws
