mod RowLaws
