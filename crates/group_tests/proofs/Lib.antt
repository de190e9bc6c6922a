mod TestLaws
mod LineLaws
mod RowLaws
