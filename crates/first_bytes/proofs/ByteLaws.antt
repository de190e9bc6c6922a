-- A byte among some. Assumes nothing.
use Prim.Native.Nat.{ℕ}
use mathlib.Core.Path.{◌≡◌, refl, sym}
use mathlib.Core.List.{List, [], ◌∷◌}
use mathlib.Core.Bool.{Bool, true, false}
use borrow.Author.Tests.{eq-eqb, ne_eqb, eqb-true, eqb-false}
use lib.Dec.{eqb}
use Rattle.std.specs.List.{list_any}
use Rattle.iff.specs.Lists.{has, any}

either_way : (a b : ℕ) → eqb a b ≡ eqb b a
either_way a b = go (eqb b a) refl
  where
    go : (t : Bool) → eqb b a ≡ t → eqb a b ≡ t
    go true e = eq-eqb a b (sym (eqb-true b a e))
    go false e = ne_eqb a b (λ q. eqb-false b a e (sym q))

-- std's word for the same test
pub has_is : (b : ℕ) (s : List ℕ) → list_any (λ x. eqb x b) s ≡ has b s
unfolding any
has_is b [] = refl
has_is b (x ∷ s) = rw (either_way x b, has_is b s)
