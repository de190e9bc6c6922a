-- `ask_in_row` meets its contract: a row of services asks for both, and no slot is added. Assumes nothing.
use mathlib.Core.Path.{refl, ◌∙◌}
use Rattle.named_places.proofs.ask_in_row.Goals as goal

pub returns-then-word_at-ne-DASH : goal.returns-then-word_at-ne-DASH
returns-then-word_at-ne-DASH c = (refl, (λ e. (e, refl)))

pub returns : goal.returns
returns c =
    let to = c.ask_missing.ensures in
    let from = c.ask_missing-one.ensures in
    (to.0 ∙ from.0, (λ e. ((from.1 (to.1 e).0).0, (to.1 e).1 ∙ (from.1 (to.1 e).0).1)))
