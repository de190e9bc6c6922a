-- `is_named` meets its contract. Assumes nothing.
use mathlib.Core.Path.{refl}
use Rattle.ranks.proofs.is_named.Goals as goal

pub returns : goal.returns
returns c = refl
