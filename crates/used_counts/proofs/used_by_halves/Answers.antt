-- `used_by_halves` meets its contract: the number of rows in use is from `low` to `high`. Assumes nothing.
use native.Mathlib.Nat.{div-le_self}
use native.Mathlib.Omega.{arith}
use lib.ListN.{length}
use Rattle.tables.proofs.Rows.{row_in_table}
use Rattle.used_counts.proofs.HalfLaws.{starts, ends, before_it, behind_it}
use Rattle.used_counts.proofs.used_by_halves.Goals as goal

pub loop-low-init : goal.loop-low-init
loop-low-init c = starts _ _ _ c.row_width-w.ensures.is c.requires

pub overflow_add-middle : goal.overflow_add-middle
overflow_add-middle c =
    omega (arith, c.loop-low.invariant.inside, div-le_self (length c.args.t.now) c.row_width-w.result)

pub word_at-requires : goal.word_at-requires
word_at-requires c =
    (c.row_width-w.ensures.some, row_in_table _ _ _ (omega (arith, c.loop-low.invariant.inside, c.loop-low-test.true)))

pub loop-low-preserved-then-word_at-eq0 : goal.loop-low-preserved-then-word_at-eq0
loop-low-preserved-then-word_at-eq0 c =
    before_it _ _ _ _ c.loop-low.invariant c.row_width-w.ensures.some _ _ c.word_at.ensures
    (omega (arith, c.loop-low-test.true)) c.if-word_at-eq0.true

pub loop-low-preserved : goal.loop-low-preserved
loop-low-preserved c =
    behind_it _ _ _ _ c.loop-low.invariant c.row_width-w.ensures.some _ _ c.word_at.ensures
    (omega (arith, c.loop-low-test.true)) c.if-word_at-eq0.false

pub overflow_add-low : goal.overflow_add-low
overflow_add-low c =
    omega (arith, c.loop-low-test.true, c.loop-low.invariant.inside, div-le_self (length c.args.t.now) c.row_width-w.result)

pub returns : goal.returns
returns c = ends _ _ _ _ c.loop-low.invariant _ c.row_width-w.ensures.is (omega (arith, c.loop-low-test.false))

pub loop-low-smaller-then-word_at-eq0 : goal.loop-low-smaller-then-word_at-eq0
loop-low-smaller-then-word_at-eq0 c = omega (arith, c.loop-low-test.true)

pub loop-low-smaller : goal.loop-low-smaller
loop-low-smaller c = omega (arith, c.loop-low-test.true)
