-- A test of the rows of a table in turn, each in the state that those before it leave: the loop over the rows from i on. Assumes nothing.
use Prim.Native.Nat.{ℕ, ◌+◌, ◌≤◌, ◌<◌}
use mathlib.Core.Path.{◌≡◌, refl, sym, ◌∙◌}
use mathlib.Core.List.{List, [], ◌∷◌, ◌++◌}
use mathlib.Core.Bool.{Bool, true, false}
use native.Mathlib.Numerals.{add-one}
use Rattle.iff.specs.Refusals.{after}
use Rattle.iff.specs.Tables.{Row, row_at}
use Rattle.iff_desk.specs.Sound.{passes}
use Rattle.keys.specs.Blocks.{rows_between}
use Rattle.walks.proofs.GroupLaws.{between_none, between_first}

module _ {S : Type 0} (ok : S → Row → Bool) (next : S → Row → S) (w : ℕ) (t : List ℕ) (to i : ℕ) (st : S) where
  pub all_passed : to ≤ i → true ≡ passes ok next st (rows_between w t i to)
  unfolding passes
  all_passed h = rw (between_none w t i to h)

  module _ (h : i < to) (b : Bool) (e : b ≡ ok st (row_at w t i)) where
    pub row_fails : b ≡ false → false ≡ passes ok next st (rows_between w t i to)
    unfolding passes
    row_fails g = rw (between_first w t i to h, sym e ∙ g)

    pub row_passes : b ≡ true → passes ok next st (rows_between w t i to) ≡ passes ok next (next st (row_at w t i)) (rows_between w t (i + 1) to)
    unfolding passes
    row_passes g = rw (between_first w t i to h, sym e ∙ g, add-one)

-- the state after one entry more
pub after_last : {S A : Type 0} (next : S → A → S) (st : S) (xs : List A) (x : A) → after next st (xs ++ (x ∷ [])) ≡ next (after next st xs) x
unfolding after
after_last next st [] x = refl
after_last next st (y ∷ xs) x = after_last next (next st y) xs x
