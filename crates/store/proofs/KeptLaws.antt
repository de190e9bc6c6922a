-- The rows of a table that pass a test, one row at a time: the loop that looks for one of them. Assumes nothing.
use Rattle.std.specs.Prelude.{None, Some}
use Prim.Native.Nat.{ℕ, suc, ◌+◌, ◌-◌, ◌*◌, ◌≤◌, ◌<◌}
use mathlib.Core.Path.{◌≡◌, ap, ◌∙◌}
use mathlib.Core.List.{List, [], ◌∷◌}
use mathlib.Core.Bool.{Bool, true, false}
use native.Mathlib.Omega.{arith}
use native.Mathlib.Numerals.{add-one}
use lib.ListN.{length, get_or}
use Rattle.iff.specs.Lists.{kept}
use Rattle.iff.specs.Tables.{Row, row_at}
use Rattle.tables.proofs.Rows.{row_inside}
use Rattle.keys.specs.Blocks.{rows_between}
use Rattle.walks.proofs.GroupLaws.{between_none, between_first}
use Rattle.store.specs.Found.{RowFor}

-- a row that was looked for, and that is none
pub row_for_none : (w : ℕ) (t : List ℕ) (row : Row) → row ≡ [] → RowFor w t row None
row_for_none w t row e =
    record { is = e; stands = λ j q. let z : ◌≡◌ {A = ℕ} 0 1 = cc in absurd (omega arith) }

pub row_for : (w : ℕ) (t : List ℕ) (row : Row) (i : ℕ) → row ≡ row_at w t i → i * w + w ≤ length t → RowFor w t row (Some i)
row_for w t row i e h =
    record {
      is = e;
      stands = λ j q. let z : i ≡ j = cc in rw (← z) h;
    }

module _ (p : Row → Bool) (w : ℕ) (t : List ℕ) (to i : ℕ) where
  pub kept_none : to ≤ i → kept p (rows_between w t i to) ≡ []
  unfolding kept
  kept_none h = rw (between_none w t i to h)

  -- the loop has come to its end
  pub row_none : (row : Row) (k : ℕ) → row ≡ get_or (kept p (rows_between w t i to)) k [] → to ≤ i → RowFor w t row None
  row_none row k e h = row_for_none w t row (e ∙ rw (kept_none h))

  module _ (h : i < to) (b : Bool) (e : b ≡ p (row_at w t i)) where
    pub kept_here : b ≡ true → kept p (rows_between w t i to) ≡ row_at w t i ∷ kept p (rows_between w t (i + 1) to)
    unfolding kept
    kept_here g = rw (between_first w t i to h, ← e, g, add-one)

    pub kept_past : b ≡ false → kept p (rows_between w t i to) ≡ kept p (rows_between w t (i + 1) to)
    unfolding kept
    kept_past g = rw (between_first w t i to h, ← e, g, add-one)

    -- it is row i
    pub row_here_lem : (row : Row) (k : ℕ) → row ≡ get_or (kept p (rows_between w t i to)) k [] → b ≡ true → k ≡ 0 → to * w ≤ length t
        → RowFor w t row (Some i)
    row_here_lem row k q g z f = row_for w t row i (q ∙ rw (kept_here g, z)) (row_inside w i to (length t) h f)

    -- it is not, whether row i passes or not
    pub row_next : (row : Row) (k : ℕ) → row ≡ get_or (kept p (rows_between w t i to)) k [] → b ≡ true → (k ≡ 0 → ⊥)
        → row ≡ get_or (kept p (rows_between w t (i + 1) to)) (k - 1) []
    row_next row k q g z =
        let y : k ≡ suc (k - 1) = omega arith in
        q ∙ ap (λ (n : ℕ). get_or (kept p (rows_between w t i to)) n []) y ∙ rw (kept_here g)

    pub row_past : (row : Row) (k : ℕ) → row ≡ get_or (kept p (rows_between w t i to)) k [] → b ≡ false
        → row ≡ get_or (kept p (rows_between w t (i + 1) to)) k []
    row_past row k q g = q ∙ rw (kept_past g)
