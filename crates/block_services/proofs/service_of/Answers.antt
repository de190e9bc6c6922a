-- `block_services::service_of` meets its contract: the first line is the one that ends first, or the whole text. Assumes nothing.
use mathlib.Core.Path.{sym, ◌∙◌}
use native.Mathlib.Omega.{arith}
use Rattle.block_services.proofs.ServiceLaws.{first_ends, service_ended, service_unended}
use Rattle.block_services.proofs.service_of.Goals as goal

pub slice_bounds-head_word-end : goal.slice_bounds-head_word-end
slice_bounds-head_word-end c = omega (arith, first_ends _ _ (sym c.line_end.ensures ∙ c.in-Some.is))

pub returns-in-Some : goal.returns-in-Some
returns-in-Some c form = service_ended form _ _ (sym c.line_end.ensures ∙ c.in-Some.is) _ (c.head_word.ensures form)

pub returns-in-None : goal.returns-in-None
returns-in-None c form = service_unended form _ (sym c.line_end.ensures ∙ c.in-None.is) _ (c.head_word-in-None.ensures form)
