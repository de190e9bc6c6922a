-- `row_moves::move_rest` meets its contract: words copied, and zeros behind them. Assumes nothing.
use Prim.Native.Nat.{◌-◌}
use mathlib.Core.Path.{◌≡◌, ◌∙◌}
use native.Mathlib.Omega.{arith}
use Rattle.row_moves.specs.Moves.{copied}
use Rattle.row_moves.proofs.MoveLaws.{copied_is, moved_front, moved_back, moved_nowhere}
use Rattle.row_moves.proofs.move_rest.Goals as goal

pub returns-then-from-to : goal.returns-then-from-to
returns-then-from-to c =
    let a = c.args in
    moved_nowhere a.t.now a.from a.end a.to c.requires c.if-from-to.true

pub returns-then-to-from : goal.returns-then-to-from
returns-then-to-from c =
    let a = c.args in
    let e : c.copy_within.new.self ≡ copied a.t.now a.from a.to (a.end - a.from) = c.copy_within.ensures.after ∙ copied_is a.t.now a.from a.end a.to in
    moved_front a.t.now a.from a.end a.to c.requires (omega (arith, c.if-to-from.true)) c.copy_within.new.self e _ (omega arith) c.clear.new.t c.clear.ensures

pub returns-else-to-from : goal.returns-else-to-from
returns-else-to-from c =
    let a = c.args in
    c.copy_within.ensures.after ∙ copied_is a.t.now a.from a.end a.to
    ∙ moved_back a.t.now a.from a.end a.to c.requires (omega (arith, c.if-to-from.false))
