-- `fields::company_or_any` meets its contract. Assumes nothing.
use mathlib.Core.Path.{sym, ◌∙◌}
use Rattle.iff.specs.Values.{company_or_any}
use Rattle.fields.proofs.company_or_any.Goals as goal

pub returns-then-is_wildcard : goal.returns-then-is_wildcard
unfolding company_or_any
returns-then-is_wildcard c = c.code.ensures ∙ rw (sym c.is_wildcard.ensures ∙ c.if-is_wildcard.true)

pub returns : goal.returns
unfolding company_or_any
returns c = c.number.ensures ∙ rw (sym c.is_wildcard.ensures ∙ c.if-is_wildcard.false)
