-- `text::line_at` meets its contract. Assumes nothing.
use mathlib.Core.Path.{sym, ◌∙◌}
use native.Mathlib.Omega.{arith}
use Rattle.text.proofs.LineLaws.{span_ended, span_unended}
use Rattle.text.proofs.line_at.Goals as goal

pub returns-in-Some : goal.returns-in-Some
returns-in-Some c =
    span_ended c.args.text.now c.args.at c.requires _ (sym c.line_end.ensures ∙ c.in-Some.is)

pub returns-in-None : goal.returns-in-None
returns-in-None c =
    span_unended c.args.text.now c.args.at c.requires (sym c.line_end.ensures ∙ c.in-None.is)

pub overflow_add-result : goal.overflow_add-result
overflow_add-result c = omega (arith, returns-in-Some c)
