-- `row_legs::are_marked_once` meets its contract: after all rows, the marks are the counts. Assumes nothing.
use Prim.Native.Nat.{◌-◌}
use mathlib.Core.Path.{◌∙◌}
use native.Mathlib.Omega.{arith}
use borrow.Author.Tests.{not-true, not-false}
use Rattle.iff_rules.specs.Meaning.{most_stops}
use Rattle.leg_marks.proofs.MarkLaws.{twice_not, marks_are}
use Rattle.linked_legs.specs.Links.{block_between}
use Rattle.row_legs.proofs.TestLaws.{kind_once}
use Rattle.row_legs.proofs.are_marked_once.Goals as goal

pub returns-then-not-mark_rows : goal.returns-then-not-mark_rows
returns-then-not-mark_rows c =
    let a = c.args in
    twice_not a.n most_stops _ _ _ c.mark_rows.ensures (not-true _ c.if-not-mark_rows.true-raw)
    ∙ kind_once a.kind (a.n - 1) (block_between a.t.now a.from a.to)

-- there is no leg n, and so a mark for each
pub all_marked-requires : goal.all_marked-requires
all_marked-requires c =
    omega (arith, c.legs_of-last_leg.ensures, c.requires.fit)

pub returns : goal.returns
returns c =
    let a = c.args in
    c.all_marked.ensures
    ∙ marks_are a.n most_stops _ _ _ c.mark_rows.ensures _ c.legs_of-last_leg.ensures (not-false _ c.if-not-mark_rows.false-raw)
    ∙ kind_once a.kind (a.n - 1) (block_between a.t.now a.from a.to)
