-- What the library says of a test of all elements is what the definition says. Assumes nothing.
use Prim.Native.Nat.{ℕ}
use mathlib.Core.Path.{◌≡◌, refl}
use mathlib.Core.List.{List}
use mathlib.Core.Bool.{Bool, ◌&&◌}
use Rattle.std.specs.List.{list_all}
use Rattle.std.proofs.lemmas.List.Recursion.{same_from_clauses}
use Rattle.iff.specs.Lists.{all}

pub list_all_is : (p : ℕ → Bool) (s : List ℕ) → list_all p s ≡ all p s
unfolding all
list_all_is p s = same_from_clauses (list_all p) (all p) (λ x r. p x && r) refl (λ _ _. refl) (λ _ _. refl) s
