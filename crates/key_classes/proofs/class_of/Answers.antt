-- `class_of` meets its contract. Assumes nothing.
use mathlib.Core.Path.{refl}
use Rattle.key_classes.specs.Classes.{class_of}
use Rattle.key_classes.proofs.class_of.Goals as goal

pub returns : goal.returns
unfolding class_of
returns c = refl
