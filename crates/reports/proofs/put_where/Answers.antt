-- `put_where` meets its contract. Assumes nothing.
use Rattle.text_puts.proofs.TextLaws.{then}
use Rattle.reports.proofs.put_where.Goals as goal

pub returns : goal.returns
returns c =
    rw (← c.ordinal_of.ensures, ← c.line_of.ensures)
    (then c.put_place-a.ensures (then c.put_field-b.ensures (then c.put_field-c.ensures c.put_byte.ensures)))
