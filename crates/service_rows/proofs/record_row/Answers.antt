-- `record_row` meets its contract: the first row of its kind that the leg lies in. Assumes nothing.
use mathlib.Core.Path.{refl}
use Rattle.tables.proofs.Rows.{row_inside}
use Rattle.store.proofs.KeptLaws.{row_none, row_here_lem, row_past}
use Rattle.service_rows.specs.Lies.{lies_in}
use Rattle.service_rows.proofs.LieLaws.{record_on_lem}
use Rattle.service_rows.proofs.record_row.Goals as goal

pub lies_at-requires : goal.lies_at-requires
lies_at-requires c = row_inside _ _ _ _ c.loop-i-test.true c.requires.fits

pub returns-then-lies_at : goal.returns-then-lies_at
returns-then-lies_at c =
    row_here_lem (lies_in c.args.kind c.args.leg) _ c.args.t.now _ c.loop-i.i c.loop-i-test.true _ c.lies_at.ensures _ 0
    c.loop-i.invariant c.if-lies_at.true refl c.requires.fits

pub loop-i-preserved : goal.loop-i-preserved
loop-i-preserved c =
    row_past (lies_in c.args.kind c.args.leg) _ c.args.t.now _ c.loop-i.i c.loop-i-test.true _ c.lies_at.ensures _ 0
    c.loop-i.invariant c.if-lies_at.false

pub returns : goal.returns
returns c =
    row_none (lies_in c.args.kind c.args.leg) _ c.args.t.now _ c.loop-i.i _ 0 c.loop-i.invariant c.loop-i-test.false

pub loop-i-init : goal.loop-i-init
loop-i-init c = record_on_lem _ _ _
