-- `names_among` meets its contract: a key is named exactly where its row is found. Assumes nothing.
use mathlib.Core.Path.{◌∙◌}
use Rattle.keys.proofs.Among.{found_named}
use Rattle.lookups.proofs.names_among.Goals as goal

pub returns : goal.returns
returns c = c.is_some.ensures ∙ found_named _ _ _ _ _ c.find_among.ensures
