-- `put_refused` meets its contract. Assumes nothing.
use Rattle.iff.specs.Bytes.{bytes}
use Rattle.text_puts.proofs.TextLaws.{then}
use Rattle.reports.proofs.put_refused.Goals as goal

pub returns : goal.returns
unfolding bytes
returns c =
    rw (← c.number_of.ensures)
    (then c.put_bytes-a.ensures (then c.put_field-b.ensures c.put_where.ensures))
