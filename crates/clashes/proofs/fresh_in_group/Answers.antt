-- `fresh_in_group` meets its contract: what is left clashes exactly when the whole does. Assumes nothing.
use mathlib.Core.Path.{ap, sym, ◌∙◌}
use mathlib.Core.Bool.{not}
use Rattle.iff_rules.specs.Unique.{clash}
use Rattle.keys.proofs.Blocks.{none_left, one_here, one_on}
use Rattle.clashes.proofs.fresh_in_group.Goals as goal

pub returns-then-clashes_at : goal.returns-then-clashes_at
returns-then-clashes_at c =
    let a = c.args in
    ap not
    (sym
    (c.loop-i.invariant.1
    ∙ one_here (clash a.file a.row.now) _ a.t.now a.to c.loop-i.i c.loop-i-test.true _
    c.clashes_at.ensures c.if-clashes_at.true))

pub loop-i-preserved : goal.loop-i-preserved
loop-i-preserved c =
    let a = c.args in (
      c.loop-i.invariant.0,
      c.loop-i.invariant.1
          ∙ one_on (clash a.file a.row.now) _ a.t.now a.to c.loop-i.i c.loop-i-test.true _
          c.clashes_at.ensures c.if-clashes_at.false,
    )

pub returns : goal.returns
returns c =
    let a = c.args in
    ap not (sym (c.loop-i.invariant.1 ∙ none_left (clash a.file a.row.now) _ a.t.now a.to c.loop-i.i c.loop-i-test.false))
