-- `period_in` meets its contract: the first row that holds the day. Assumes nothing.
use mathlib.Core.Path.{refl}
use Rattle.iff_desk.specs.Store.{holds}
use Rattle.store.proofs.KeptLaws.{row_none, row_here_lem, row_past}
use Rattle.periods.proofs.period_in.Goals as goal

pub returns-then-holds_at : goal.returns-then-holds_at
returns-then-holds_at c =
    row_here_lem (holds c.args.day) _ c.args.t.now _ c.loop-i.i c.loop-i-test.true _ c.holds_at.ensures _ 0 c.loop-i.invariant
    c.if-holds_at.true refl c.requires

pub loop-i-preserved : goal.loop-i-preserved
loop-i-preserved c =
    row_past (holds c.args.day) _ c.args.t.now _ c.loop-i.i c.loop-i-test.true _ c.holds_at.ensures _ 0 c.loop-i.invariant
    c.if-holds_at.false

pub returns : goal.returns
returns c =
    row_none (holds c.args.day) _ c.args.t.now _ c.loop-i.i _ 0 c.loop-i.invariant c.loop-i-test.false
