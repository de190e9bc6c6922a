-- Tests that must all hold, where the work asks them in another order than the definition. Assumes nothing.
use Prim.Native.Nat.{ℕ, zero, suc}
use mathlib.Core.Path.{◌≡◌, refl, sym}
use mathlib.Core.List.{List, [], ◌∷◌}
use mathlib.Core.Bool.{Bool, true, false, ◌&&◌, false≢true}
use lib.ListN.{get_or}
use Rattle.iff.specs.Lists.{all_of}

-- one that does not is enough
pub one_false : (bs : List Bool) (k : ℕ) → get_or bs k true ≡ false → false ≡ all_of bs
unfolding all_of
one_false [] k e = absurd (false≢true (sym e))
one_false (b ∷ bs) zero e = rw e
one_false (b ∷ bs) (suc k) e = go b (one_false bs k e)
  where
    go : (b : Bool) → false ≡ all_of bs → false ≡ (b && all_of bs)
    go true f = f
    go false f = refl
