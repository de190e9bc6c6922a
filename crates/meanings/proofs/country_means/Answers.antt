-- 0 or 1. Assumes nothing.
use mathlib.Core.Path.{refl}
use Rattle.iff_rules.specs.Meaning.{row_meaning}
use Rattle.meanings.proofs.country_means.Goals as goal

pub returns : goal.returns
unfolding row_meaning
returns c = refl
