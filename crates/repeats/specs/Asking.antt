-- Keys asked class by class, over all classes.
use Rattle.std.specs.Prelude.{ℕ, ◌<◌, List}
use Rattle.key_classes.specs.Classes.{CameAgain, ClearTo}

-- before a class, n keys are left to be asked
pub record Asking (classes : ℕ) (ks : List ℕ) (used class n : ℕ) : Type 0 where
  pub clear : (d : ℕ) → d < class → ClearTo classes d ks n
  pub again : n < used → CameAgain ks n
