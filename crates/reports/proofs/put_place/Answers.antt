-- `put_place` meets its contract. Assumes nothing.
use Rattle.iff.specs.Bytes.{bytes}
use Rattle.text_puts.proofs.TextLaws.{then}
use Rattle.reports.proofs.put_place.Goals as goal

pub returns-in-None : goal.returns-in-None
unfolding bytes
returns-in-None c =
    rw c.in-None.is
    (then c.put_byte-to.ensures c.put_byte.ensures)

pub returns-in-Some : goal.returns-in-Some
returns-in-Some c =
    rw c.in-Some.is
    (then c.put_byte-to.ensures c.put_name.ensures)
