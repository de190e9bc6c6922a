-- `text_numbers::columns_number` meets its contract. Assumes nothing.
use Rattle.text_numbers.proofs.columns_number.Goals as goal

pub returns : goal.returns
returns c = rw (← c.columns_of.ensures) c.text_number.ensures
