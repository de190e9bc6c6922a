-- `fields::is_wildcard` meets its contract: the wildcard of a width is `*` and blanks to that width. Assumes nothing.
use mathlib.Core.Path.{◌∙◌}
use native.Mathlib.Omega.{arith}
use Rattle.text.proofs.ValueLaws.{wild_none, wild_other, wild_rest}
use Rattle.fields.proofs.is_wildcard.Goals as goal

pub returns-in-42 : goal.returns-in-42
returns-in-42 c =
    c.all_blank.ensures ∙ wild_rest _ (λ e. omega arith) (omega arith)

pub returns-in_default : goal.returns-in_default
returns-in_default c = wild_none _ (omega arith)

pub returns-in_default-2 : goal.returns-in_default-2
returns-in_default-2 c = wild_other _ (λ e. absurd (omega arith))
