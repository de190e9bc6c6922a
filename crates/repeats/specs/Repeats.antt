-- What is told of keys that may come twice.
use Rattle.std.specs.Prelude.{ℕ, ◌<◌, ◌≡◌, List, true, length, get_or, take}
use Rattle.iff.specs.Lists.{has}
use Rattle.iff_desk.specs.Sound.{distinct}
use Rattle.repeats.specs.declared.Repeats.{Repeats}
use Rattle.repeats.specs.declared.Repeats.TheVariants.{Never, First}

-- the key after the first j is one of them, and no two of those are the same
pub record FirstRepeat (ks : List ℕ) (j : ℕ) : Type 0 where
  pub inside : j < length ks
  pub before : distinct (take j ks) ≡ true
  pub again : has (get_or ks j 0) (take j ks) ≡ true

pub record Told (ks : List ℕ) (r : Repeats) : Type 0 where
  pub never : r ≡ Never → distinct ks ≡ true
  pub first : (j : ℕ) → r ≡ First j → FirstRepeat ks j
