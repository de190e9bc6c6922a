-- `is_earlier` meets its contract. Assumes nothing.
use borrow.Author.Tests.{lt-ltb, le-ltb}
use Rattle.tables.proofs.Rows.{row_inside}
use Rattle.slots.proofs.is_earlier.Goals as goal

pub keyed_at-requires : goal.keyed_at-requires
keyed_at-requires c =
    (c.requires.0, row_inside c.args.w c.args.row c.args.i _ c.if-row-i.true c.requires.1)

pub returns-then-row-i : goal.returns-then-row-i
returns-then-row-i c = rw (lt-ltb _ _ c.if-row-i.true) c.keyed_at.ensures

pub returns : goal.returns
returns c = rw (le-ltb _ _ c.if-row-i.false)
