-- `block_legs::are_in_range` meets its contract: what is left to ask is the whole. Assumes nothing.
use mathlib.Core.Path.{sym, ◌∙◌}
use Rattle.block_legs.proofs.LineLaws.{legible_here, ranging_not, ranging_next, ranging_all}
use Rattle.block_legs.proofs.are_in_range.Goals as goal

pub line_in_range-requires : goal.line_in_range-requires
line_in_range-requires c =
    legible_here _ _ _ c.in-Some.ensures.steps c.args.form c.loop-line.invariant.legibly

pub returns-then-not-line_in_range : goal.returns-then-not-line_in_range
returns-then-not-line_in_range c =
    ranging_not _ _ _ _ _ _ c.in-Some.ensures.steps c.loop-line.invariant (sym c.line_in_range.ensures ∙ c.if-not-line_in_range.true)

pub loop-line-preserved : goal.loop-line-preserved
loop-line-preserved c =
    ranging_next _ _ _ _ _ _ c.in-Some.ensures.steps c.loop-line.invariant (sym c.line_in_range.ensures ∙ c.if-not-line_in_range.false)

pub returns : goal.returns
returns c = ranging_all _ _ _ _ c.in-None.ensures.steps.0 c.loop-line.invariant
