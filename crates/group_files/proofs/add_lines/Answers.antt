-- `group_files::add_lines` meets its contract. What is left of the lines is the whole: the laws of the walk say so at the start, a line further,
-- and at each way out. Assumes nothing.
use mathlib.Core.Path.{refl, sym, ◌∙◌}
use borrow.Author.Tests.{not-true, not-false}
use Rattle.group_files.proofs.WalkLaws.{walk_start, walk_beside, walk_early, walk_refused, walk_goes, walk_short, walk_ends}
use Rattle.group_files.proofs.add_lines.Goals as goal

-- IT BEGINS
pub loop-line-init : goal.loop-line-init
loop-line-init c = (walk_start _ _ _ _ _ _ c.requires _ (cc) _ _ _ c.no_keys.ensures c.opening-group.ensures, refl)

-- A LINE
pub group_line-requires : goal.group_line-requires
group_line-requires c =
    walk_beside _ _ _ _ _ _ c.requires _ _ _ _ _ c.loop-line.invariant.0 _ _ c.in-Some.ensures.steps

-- it opens a group too early
pub returns-in-Early : goal.returns-in-Early
returns-in-Early c =
    walk_early _ _ _ _ _ _ c.requires _ _ _ _ _ c.loop-line.invariant.0 _ _ c.in-Some.ensures.steps _ _ _ c.group_line.ensures
    c.in-Early.is _ c.line_number.ensures

-- it is refused
pub returns-in-Refused : goal.returns-in-Refused
returns-in-Refused c =
    walk_refused _ _ _ _ _ _ c.requires _ _ _ _ _ c.loop-line.invariant.0 _ _ c.in-Some.ensures.steps _ _ _ c.group_line.ensures _
    c.in-Refused.is _ c.line_number-in-Refused.ensures

-- it stands in the table
pub loop-line-preserved : goal.loop-line-preserved
loop-line-preserved c = (
  walk_goes _ _ _ _ _ _ c.requires _ _ _ _ _ c.loop-line.invariant.0 _ _ c.in-Some.ensures.steps _ _ _ c.group_line.ensures _
      c.in-Put.is,
  c.group_line.auto.marks ∙ c.loop-line.invariant.1,
)

-- NO LINES ARE LEFT
pub returns-then-not-may_end : goal.returns-then-not-may_end
returns-then-not-may_end c =
    walk_short _ _ _ _ _ _ c.requires _ _ _ _ _ c.loop-line.invariant.0 c.in-None.ensures.steps.0
    (sym c.may_end.ensures ∙ not-true _ c.if-not-may_end.true-raw) _ c.line_number-then-not-may_end.ensures

pub returns : goal.returns
returns c =
    walk_ends _ _ _ _ _ _ c.requires _ _ _ _ _ c.loop-line.invariant.0 c.in-None.ensures.steps.0
    (sym c.may_end.ensures ∙ not-false _ c.if-not-may_end.false-raw)
