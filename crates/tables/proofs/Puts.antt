-- Some rows put into a table one after the other, over any width. Assumes nothing.
use Prim.Native.Nat.{ℕ, suc, ◌+◌, ◌-◌, ◌*◌, ◌≤◌}
use mathlib.Core.Path.{◌≡◌, sym, ◌∙◌}
use mathlib.Core.List.{List, [], ◌∷◌, ◌++◌, append_assoc}
use native.Mathlib.Nat.{add-zero, suc-mul, add-mul}
use native.Mathlib.Numerals.{add-one}
use native.Mathlib.Omega.{arith}
use lib.ListN.{length, take, drop, take-append-drop}
use lib.Seq.{drop-drop}
use Rattle.iff.specs.Tables.{Row, joined, put_row}
use Rattle.tables.proofs.Each.{Each}
use Rattle.tables.proofs.Rows.{Used}
use Rattle.tables.proofs.Put.{length_put, put_front, put_behind}

-- rows of w words
abbrev pub Wide : ℕ → Row → Type 0
Wide w r = length r ≡ w

pub used_wide : (w : ℕ) (rs : List Row) → Each (Used w) rs → Each (Wide w) rs
used_wide w [] u = tt
used_wide w (r ∷ rs) u = (u.0.0, used_wide w rs u.1)

-- from row i on
unfoldable pub put_rows : ℕ → List ℕ → ℕ → List Row → List ℕ
put_rows w t i [] = t
put_rows w t i (r ∷ rs) = put_rows w (put_row w t i r) (suc i) rs

module _ (w : ℕ) where
  -- what stands behind a row that was put is what stood there
  behind : (t : List ℕ) (i : ℕ) (r : Row) → length r ≡ w → i * w + w ≤ length t → (m : ℕ) → (i + 1) * w ≤ m → drop m (put_row w t i r) ≡ drop m t
  behind t i r l h m g =
      let d : m ≡ (i + 1) * w + (m - (i + 1) * w) = omega arith in
      rw (
        d,
        ← (drop-drop (m - (i + 1) * w) ((i + 1) * w) (put_row w t i r)),
        ← (drop-drop (m - (i + 1) * w) ((i + 1) * w) t),
        put_behind w t i r l h,
      )

  -- what stands before and behind them is kept
  pub rows_put : (rs : List Row) → Each (Wide w) rs → (t : List ℕ) (i : ℕ) → (i + length rs) * w ≤ length t
      → put_rows w t i rs ≡ take (i * w) t ++ (joined rs ++ drop ((i + length rs) * w) t)
  unfolding put_rows joined
  rows_put [] u t i h = rw add-zero (sym (take-append-drop (i * w) t))
  rows_put (r ∷ rs) u t i h =
      let n = length rs in
      let s : suc i + n ≡ i + suc n = omega arith in
      let all : (i + suc n) * w ≡ i * w + (n * w + w) = add-mul i (suc n) w ∙ rw suc-mul in
      let next : (i + 1) * w ≡ i * w + w = rw (add-one, suc-mul) in
      let g : i * w + w ≤ length t = omega arith in
      let k : (suc i + n) * w ≤ length (put_row w t i r) = rw (s, length_put w t i r u.0 g) h in
      rows_put rs u.1 (put_row w t i r) (suc i) k
      ∙ rw (
        s,
        behind t i r u.0 g ((i + suc n) * w) (omega arith),
        ← add-one,
        put_front w t i r u.0 g,
        append_assoc,
        append_assoc,
      )
