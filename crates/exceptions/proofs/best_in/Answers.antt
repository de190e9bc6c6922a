-- `best_in` meets its contract: the best of what is left, after the best so far, is the best of the whole. Assumes nothing.
use Rattle.std.specs.Prelude.{Option}
use Prim.Native.Nat.{◌+◌}
use mathlib.Core.Path.{refl, ap, sym, ◌∙◌}
use mathlib.Core.Bool.{Bool}
use Rattle.iff.specs.Lists.{kept}
use Rattle.iff.specs.Tables.{Row, group_width, rows_in}
use Rattle.iff.specs.declared.GroupFile.TheVariants.{Xfootnote, Xchanges}
use Rattle.iff.specs.declared.File.TheVariants.{Groups}
use Rattle.iff_desk.specs.Changing.{best as best_of}
use Rattle.tables.proofs.Rows.{row_inside}
use Rattle.keys.specs.Blocks.{rows_between}
use Rattle.exception_rows.specs.Rows.{applies_by}
use Rattle.exceptions.proofs.RowLaws.{best_none, best_on}
use Rattle.exceptions.proofs.best_in.Goals as goal
use Rattle.iff_desk.specs.declared.Best.{Best}

pub best_with-best-requires : goal.best_with-best-requires
best_with-best-requires c =
    (row_inside (group_width Xchanges) _ _ _ c.loop-i-test.true c.requires.0, c.requires.1)

pub loop-i-preserved : goal.loop-i-preserved
loop-i-preserved c =
    let a = c.args in
    let p : Row → Bool = applies_by (rows_in (Groups Xfootnote) a.xfootnotes.now) a.a a.b a.day in
    c.loop-i.invariant
    ∙ best_on p (group_width Xchanges) a.t.now a.to c.loop-i.i c.loop-i-test.true c.loop-i.best
    ∙ ap (λ (x : Option Best). best_of x (kept p (rows_between (group_width Xchanges) a.t.now (c.loop-i.i + 1) a.to))) (sym c.best_with-best.ensures)

pub returns : goal.returns
returns c =
    let a = c.args in
    best_none (applies_by (rows_in (Groups Xfootnote) a.xfootnotes.now) a.a a.b a.day) (group_width Xchanges) a.t.now
    a.to c.loop-i.i c.loop-i.best c.loop-i-test.false
    ∙ sym c.loop-i.invariant

pub loop-i-init : goal.loop-i-init
loop-i-init c = refl
