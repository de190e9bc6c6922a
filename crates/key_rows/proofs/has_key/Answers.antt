-- `has_key` meets its contract: there is such a row exactly when a first one is found. Assumes nothing.
use mathlib.Core.Path.{◌∙◌, ap}
use Rattle.std.specs.Option.{is_some}
use Rattle.tables.proofs.First.{any_found}
use Rattle.key_rows.proofs.has_key.Goals as goal

pub returns : goal.returns
returns c = c.is_some.ensures ∙ (ap is_some c.find_key.ensures ∙ any_found _ _ _)
