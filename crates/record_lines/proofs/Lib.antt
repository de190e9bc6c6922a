mod AllLaws
mod ColumnLaws
mod LineLaws
