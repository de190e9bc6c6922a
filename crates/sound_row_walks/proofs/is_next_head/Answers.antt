-- `is_next_head` meets its contract: both tests, in order. Assumes nothing.
use mathlib.Core.Path.{ap}
use borrow.Author.Tests.{lt-ltb, le-ltb}
use Rattle.iff.specs.Bytes.{hash}
use lib.Dec.{eqb}
use Rattle.sound_row_walks.proofs.is_next_head.Goals as goal

pub returns-then-from-i : goal.returns-then-from-i
returns-then-from-i c =
    let a = c.args in
    rw (lt-ltb a.from a.i c.if-from-i.true) (ap (λ k. eqb k hash) c.word_at.ensures)

pub returns : goal.returns
returns c = let a = c.args in rw (le-ltb a.from a.i c.if-from-i.false)
