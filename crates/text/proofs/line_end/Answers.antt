-- `text::line_end` meets its contract. The loop's invariant: the line's end lies as far from `at` as what `width` says from i on. Assumes nothing.
use mathlib.Core.Path.{sym, ◌∙◌}
use native.Mathlib.Omega.{arith}
use Rattle.text.proofs.LineLaws.{found, looks_on, not_found}
use Rattle.text.proofs.line_end.Goals as goal

pub returns-then-ends : goal.returns-then-ends
returns-then-ends c = found _ _ _ (omega arith) (sym c.ends.ensures ∙ c.if-ends.true) c.loop-i.invariant

pub loop-i-preserved : goal.loop-i-preserved
loop-i-preserved c =
    looks_on _ _ _ (omega arith) (sym c.ends.ensures ∙ c.if-ends.false) c.loop-i.invariant

pub returns : goal.returns
returns c = not_found _ _ _ (omega arith) c.loop-i.invariant
