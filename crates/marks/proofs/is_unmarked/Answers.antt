-- `marks::is_unmarked` meets its contract: what lacks a mark has not come. Assumes nothing.
use mathlib.Core.Bool.{false≢true}
use borrow.Author.Tests.{not-true}
use Rattle.marks.specs.Marks.{slot_of, other_of, print_of, other_print}
use Rattle.marks.proofs.MarkLaws.{not_shown}
use Rattle.marks.proofs.is_unmarked.Goals as goal

pub returns-then-not-does_show : goal.returns-then-not-does_show
returns-then-not-does_show c keys m e =
    let a = c.args in
    not_shown a.marks.now keys a.key (slot_of a.key) (print_of a.key) _ _
    c.slot-k.ensures c.print_of.ensures (m.one a.key) _ c.does_show.ensures (not-true _ c.if-not-does_show.true-raw)

pub returns-then-not-does_show-2 : goal.returns-then-not-does_show-2
returns-then-not-does_show-2 c keys m e =
    let a = c.args in
    not_shown a.marks.now keys a.key (other_of a.key) (other_print a.key) _ _
    c.other_slot-o.ensures c.other_print.ensures (m.other a.key) _ c.does_show-2.ensures
    (not-true _ c.if-not-does_show-2.true-raw)

pub returns : goal.returns
returns c keys m e = absurd (false≢true e)
