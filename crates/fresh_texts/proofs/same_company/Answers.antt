-- `fresh_texts::same_company` meets its contract. Assumes nothing.
use Rattle.fresh_texts.proofs.same_company.Goals as goal

pub returns-then-same_columns : goal.returns-then-same_columns
returns-then-same_columns c = rw (← c.same_columns.ensures, c.if-same_columns.true)

pub returns : goal.returns
returns c = rw (← c.same_columns.ensures, c.if-same_columns.false) c.same_columns-2.ensures
