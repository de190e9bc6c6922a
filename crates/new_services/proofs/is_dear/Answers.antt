-- `new_services::is_dear` meets its contract. Assumes nothing.
use mathlib.Core.Path.{sym, ◌∙◌}
use mathlib.Core.Bool.{true≢false}
use Rattle.new_services.proofs.is_dear.Goals as goal

-- no search was asked for
pub returns : goal.returns
returns c e = absurd (true≢false (sym e ∙ c.if-search.false))
