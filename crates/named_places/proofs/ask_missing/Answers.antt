-- `ask_missing` meets its contract: a service that has a place changes nothing, and no slot is added. Assumes nothing.
use mathlib.Core.Path.{refl}
use mathlib.Core.Bool.{true≢false}
use Rattle.named_places.proofs.ask_missing.Goals as goal

pub returns-in-Some : goal.returns-in-Some
returns-in-Some c = (refl, (λ e. (e, refl)))

pub returns : goal.returns
returns c = (c.ask.ensures, (λ e. absurd (true≢false e)))
