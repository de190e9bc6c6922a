-- `put_accepted` meets its contract. Assumes nothing.
use Rattle.iff.specs.Bytes.{bytes}
use Rattle.text_puts.proofs.TextLaws.{then}
use Rattle.reports.proofs.put_accepted.Goals as goal

pub returns : goal.returns
unfolding bytes
returns c =
    then c.put_bytes-a.ensures
    (then c.put_field-b.ensures (then c.put_field-c.ensures c.put_byte.ensures))
