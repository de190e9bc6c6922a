-- `probe` meets its contract: each slot that is passed is neither free nor a row of the key. Assumes nothing.
use native.Mathlib.Omega.{arith}
use Rattle.slots.proofs.SlotLaws.{one_passed, taken_met}
use Rattle.slots.proofs.probe.Goals as goal

pub returns-then-is_earlier : goal.returns-then-is_earlier
returns-then-is_earlier c =
    let a = c.args in
    taken_met a.file _ _ _ c.row_width-w.ensures.is c.key_tag-tag.ensures
    c.key_word-col.ensures a.t.now a.i a.key a.places.now _ _ _ c.is_earlier.ensures c.if-is_earlier.true

pub loop-at-preserved : goal.loop-at-preserved
loop-at-preserved c =
    let a = c.args in (
      omega arith,
      one_passed _ _ _ a.t.now a.i a.key a.places.now _ c.loop-at.at c.loop-at.invariant.1 c.if-row-eq0.false _
          c.is_earlier.ensures c.if-is_earlier.false,
    )
