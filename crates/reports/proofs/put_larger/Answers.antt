-- `put_larger` meets its contract. Assumes nothing.
use Rattle.iff.specs.Bytes.{bytes}
use Rattle.text_puts.proofs.TextLaws.{then}
use Rattle.reports.proofs.put_larger.Goals as goal

pub returns : goal.returns
unfolding bytes
returns c =
    then c.put_bytes-a.ensures (then c.put_place-b.ensures c.put_byte.ensures)
