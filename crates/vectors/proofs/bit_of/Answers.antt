-- `bit_of` meets its contract: a shift to the right is a division by a power of two. Assumes nothing.
use mathlib.Core.Path.{refl}
use Rattle.vectors.proofs.bit_of.Goals as goal

pub returns : goal.returns
returns c = refl
