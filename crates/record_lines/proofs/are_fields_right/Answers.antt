-- What is left to test is the whole. Assumes nothing.
use mathlib.Core.Path.{sym, ◌∙◌}
use borrow.Author.Rules.{rules}
use borrow.Author.Tests.{not-true, not-false}
use Rattle.record_lines.proofs.ColumnLaws.{test_inside, test_fails, test_on, test_end}
use Rattle.record_lines.proofs.are_fields_right.Goals as goal

pub returns-then-not-is_field_right : goal.returns-then-not-is_field_right
returns-then-not-is_field_right c =
    test_fails _ _ _ _ c.loop-j-test.true (search rules) c.loop-j.invariant
    (sym c.is_field_right.ensures ∙ not-true _ c.if-not-is_field_right.true-raw)

pub loop-j-preserved : goal.loop-j-preserved
loop-j-preserved c =
    test_on _ _ _ _ c.loop-j-test.true (search rules) c.loop-j.invariant
    (sym c.is_field_right.ensures ∙ not-false _ c.if-not-is_field_right.false-raw)

pub is_field_right-requires : goal.is_field_right-requires
is_field_right-requires c = test_inside _ _ _ _ c.loop-j-test.true (search rules) c.loop-j.invariant

pub returns : goal.returns
returns c = test_end _ _ _ _ c.loop-j-test.false c.loop-j.invariant
