-- `put_field` meets its contract. Assumes nothing.
use Rattle.text_puts.proofs.TextLaws.{then}
use Rattle.reports.proofs.put_field.Goals as goal

pub returns : goal.returns
returns c = then c.put_byte-to.ensures c.put_digits.ensures
