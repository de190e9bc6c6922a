-- `fresh_texts::same_columns` meets its contract. Assumes nothing.
use Rattle.fresh_texts.proofs.same_columns.Goals as goal

pub returns : goal.returns
returns c = rw (← c.columns_of.ensures, ← c.columns_of-2.ensures) c.same_bytes.ensures
