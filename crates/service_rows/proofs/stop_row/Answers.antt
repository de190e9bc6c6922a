-- `stop_row` meets its contract: as many stops are passed as stand before it. Assumes nothing.
use Rattle.iff.specs.Tables.{tag}
use Rattle.iff_rules.specs.Order.{is_stop}
use Rattle.tables.proofs.Rows.{row_inside}
use Rattle.store.proofs.KeptLaws.{row_none, row_here_lem, row_next, row_past}
use Rattle.service_rows.proofs.StopLaws.{stop_at_lem}
use Rattle.service_rows.proofs.stop_row.Goals as goal
use Rattle.service_rows.proofs.stop_row.Goals.{then-is_stop_at+else-before-eq0, else-is_stop_at}

pub loop-i-init : goal.loop-i-init
loop-i-init c = stop_at_lem _ _ _ c.one_less-before.ensures

pub is_stop_at-requires : goal.is_stop_at-requires
is_stop_at-requires c = row_inside _ _ _ _ c.loop-i-test.true c.requires.fits

pub returns-then-before-eq0 : goal.returns-then-before-eq0
returns-then-before-eq0 c =
    row_here_lem (λ r. is_stop (tag r)) _ c.args.t.now _ c.loop-i.i c.loop-i-test.true _ c.is_stop_at.ensures _ _ c.loop-i.invariant
    c.if-is_stop_at.true c.if-before-eq0.true c.requires.fits

pub loop-i-preserved : goal.loop-i-preserved
loop-i-preserved c =
    elim c.if-is_stop_at.branch [
      | then-is_stop_at+else-before-eq0 w ↦
          rw w.before-is
          (row_next (λ r. is_stop (tag r)) _ c.args.t.now _ c.loop-i.i c.loop-i-test.true _ c.is_stop_at.ensures _ _ c.loop-i.invariant
          w.if-is_stop_at.true w.if-before-eq0.false)
      | else-is_stop_at w ↦
          rw w.before-is
          (row_past (λ r. is_stop (tag r)) _ c.args.t.now _ c.loop-i.i c.loop-i-test.true _ c.is_stop_at.ensures _ _ c.loop-i.invariant
          w.if-is_stop_at.false)
    ]

pub returns : goal.returns
returns c =
    row_none (λ r. is_stop (tag r)) _ c.args.t.now _ c.loop-i.i _ _ c.loop-i.invariant c.loop-i-test.false
