-- `parts::seek` meets its contract: what is left to look through is the whole. Assumes nothing.
use mathlib.Core.Path.{sym, ◌∙◌}
use Rattle.parts.proofs.SeekLaws.{seeking_first, seeking_here, seeking_next, seeking_end}
use Rattle.parts.proofs.seek.Goals as goal

pub returns-then-is_wanted : goal.returns-then-is_wanted
returns-then-is_wanted c =
    seeking_here _ _ _ _ c.loop-at.invariant _ c.line_at-line.ensures (sym (c.is_wanted.ensures _) ∙ c.if-is_wanted.true)

pub loop-at-preserved : goal.loop-at-preserved
loop-at-preserved c =
    seeking_next _ _ _ _ c.loop-at.invariant _ c.line_at-line.ensures (sym (c.is_wanted.ensures _) ∙ c.if-is_wanted.false)

pub returns : goal.returns
returns c = seeking_end _ _ _ _ c.loop-at.invariant c.loop-at-test.false

pub loop-at-init : goal.loop-at-init
loop-at-init c = seeking_first _ _ _ c.requires
