-- `block_legs::is_covered` meets its contract: after all lines, the marks are the counts. Assumes nothing.
use mathlib.Core.Path.{◌∙◌}
use borrow.Author.Tests.{not-true, not-false}
use Rattle.iff_rules.specs.Meaning.{most_stops}
use Rattle.leg_marks.proofs.MarkLaws.{twice_not, marks_are}
use Rattle.block_legs.proofs.is_covered.Goals as goal

pub returns-then-not-mark_lines : goal.returns-then-not-mark_lines
returns-then-not-mark_lines c = twice_not _ most_stops _ _ _ c.mark_lines.ensures (not-true _ c.if-not-mark_lines.true-raw)

pub returns : goal.returns
returns c =
    c.all_marked.ensures ∙ marks_are _ most_stops _ _ _ c.mark_lines.ensures _ c.legs_of-last_leg.ensures (not-false _ c.if-not-mark_lines.false-raw)
