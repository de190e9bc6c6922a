-- Words that are all zero, from a place on that may lie behind the end. Assumes nothing.
use Prim.Native.Nat.{ℕ, ◌-◌, min}
use mathlib.Core.Path.{◌≡◌, refl, sym, ◌∙◌}
use mathlib.Core.List.{List, [], ◌∷◌}
use mathlib.Core.Bool.{Bool, true, false}
use native.Mathlib.Omega.{arith}
use borrow.Author.Tests.{leb-true, leb-false}
use lib.Dec.{leb, eqb}
use lib.ListN.{length, take, drop, length-drop, drop_of_length-le}
use lib.Seq.{take_all}
use Rattle.std.specs.List.{list_all}
use Rattle.iff.specs.Lists.{all}
use Rattle.iff.specs.Tables.{all_zero}

-- std's word for the same test
pub zeros_are : (t : List ℕ) → list_all (eqb 0) t ≡ all_zero t
unfolding all
zeros_are [] = refl
zeros_are (x ∷ t) = rw (zeros_are t)

-- nothing is left from the end on, and from any place behind it
same_rest : (t : List ℕ) (from m : ℕ) → m ≡ min from (length t) → drop m t ≡ drop from t
same_rest t from m e = go (leb from (length t)) refl
  where
    go : (b : Bool) → leb from (length t) ≡ b → drop m t ≡ drop from t
    go true q =
        let k : m ≡ from = omega (arith, leb-true from (length t) q) in
        rw k
    go false q = drop_of_length-le t (omega (arith, leb-false from (length t) q)) ∙ sym (drop_of_length-le t (omega (arith, leb-false from (length t) q)))

pub rest_from : (t : List ℕ) (from m : ℕ) → m ≡ min from (length t) → take (length t - m) (drop m t) ≡ drop from t
rest_from t from m e = take_all (length t - m) (drop m t) (rw length-drop (omega arith)) ∙ same_rest t from m e
