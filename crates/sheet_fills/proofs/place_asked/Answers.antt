-- `place_asked` meets its contract: where services are told, the places stay. Assumes nothing.
use mathlib.Core.Path.{sym, ◌∙◌}
use mathlib.Core.Bool.{true≢false}
use Rattle.sheet_fills.proofs.place_asked.Goals as goal

pub returns : goal.returns
returns c told = absurd (true≢false (sym told ∙ c.if-services_told.false))
