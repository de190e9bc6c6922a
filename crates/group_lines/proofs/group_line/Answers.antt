-- `group_lines::group_line` meets its contract. A `#` closes a group and opens the next; another line joins. Assumes nothing.
use mathlib.Core.Path.{sym, ◌∙◌}
use borrow.Author.Tests.{eq-eqb, ne_eqb, not-true, not-false}
use Rattle.group_lines.proofs.StepLaws.{begin_group, line_early, line_opens, line_joins}
use Rattle.group_lines.proofs.group_line.Goals as goal

pub returns-then-not-may_end : goal.returns-then-not-may_end
returns-then-not-may_end c =
    line_early _ _ _ _ _ _ _ _ c.requires (eq-eqb _ _ (sym c.first_byte.ensures ∙ c.if-first_byte-eq35.true))
    (sym c.may_end.ensures ∙ not-true _ c.if-not-may_end.true-raw)

pub add_line-requires : goal.add_line-requires
add_line-requires c =
    begin_group _ _ _ _ _ c.requires _ c.opening-next.ensures

pub returns-then-first_byte-eq35 : goal.returns-then-first_byte-eq35
returns-then-first_byte-eq35 c =
    line_opens _ _ _ _ _ _ _ _ c.requires (eq-eqb _ _ (sym c.first_byte.ensures ∙ c.if-first_byte-eq35.true))
    (sym c.may_end.ensures ∙ not-false _ c.if-not-may_end.false-raw) _ c.opening-next.ensures _ _ _ c.add_line.ensures

pub returns : goal.returns
returns c =
    line_joins _ _ _ _ _ _ _ _ c.requires (ne_eqb _ _ (λ e. c.if-first_byte-eq35.false (c.first_byte.ensures ∙ e))) _ _ _ c.add_line-2.ensures
