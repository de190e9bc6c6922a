-- A table after a row was put into it, over any width. Laws of the definitions alone. Assumes nothing.
use Prim.Native.Nat.{ℕ, zero, suc, ◌+◌, ◌-◌, ◌*◌, ◌≤◌, ◌<◌}
use mathlib.Core.Path.{◌≡◌, refl, sym, ◌∙◌}
use mathlib.Core.List.{List, [], ◌∷◌, ◌++◌, append_assoc}
use mathlib.Core.Logic.{◌⊎◌, ⊎_elim}
use native.Mathlib.Nat.{mul-le-mul_right}
use native.Mathlib.Omega.{arith}
use lib.ListN.{length, take, drop, length-append, length-drop}
use lib.Seq.{length-take-le, take_at, drop_at, drop-drop, take-take}
use Rattle.iff.specs.Tables.{Row, row_at, put_row}
use Rattle.tables.proofs.Rows.{next_row_lem, row_inside}

-- a part of the first m words is a part of the whole
in_front : (a w m : ℕ) (t : List ℕ) → a + w ≤ m → take w (drop a t) ≡ take w (drop a (take m t))
in_front zero w m t h = sym (take-take w m t (omega arith))
in_front (suc a) w zero t h = absurd (omega arith)
in_front (suc a) w (suc m) [] h = refl
in_front (suc a) w (suc m) (x ∷ t) h = in_front a w m t (omega arith)

module _ (w : ℕ) (t : List ℕ) (i : ℕ) (r : Row) (l : length r ≡ w) (h : i * w + w ≤ length t) where
  before : length (take (i * w) t) ≡ i * w
  before = length-take-le (i * w) t (omega arith)

  front : length (take (i * w) t ++ r) ≡ i * w + w
  front = rw (length-append, before, l)

  pub length_put : length (put_row w t i r) ≡ length t
  unfolding put_row
  length_put = rw (length-append, length-append, before, l, length-drop) (omega arith)

  parts : put_row w t i r ≡ (take (i * w) t ++ r) ++ drop (i * w + w) t
  unfolding put_row
  parts = rw append_assoc

  -- the words before row i, and that row
  pub put_front : take ((i + 1) * w) (put_row w t i r) ≡ take (i * w) t ++ r
  put_front = rw (next_row_lem, parts, take_at (take (i * w) t ++ r) (drop (i * w + w) t) (i * w + w) front)

  -- the words behind row i are kept
  pub put_behind : drop ((i + 1) * w) (put_row w t i r) ≡ drop ((i + 1) * w) t
  put_behind = rw (next_row_lem, parts, drop_at (take (i * w) t ++ r) (drop (i * w + w) t) (i * w + w) front)

  -- and so are those before it
  pub put_before : take (i * w) (put_row w t i r) ≡ take (i * w) t
  unfolding put_row
  put_before = take_at (take (i * w) t) (r ++ drop (i * w + w) t) (i * w) before

  -- row i reads back
  pub put_row_lem : row_at w (put_row w t i r) i ≡ r
  unfolding put_row
  put_row_lem = rw (drop_at (take (i * w) t) (r ++ drop (i * w + w) t) (i * w) before, take_at r (drop (i * w + w) t) w l)

  -- every other row is kept
  pub put_other : (j : ℕ) → (j < i) ⊎ (i < j) → row_at w (put_row w t i r) j ≡ row_at w t j
  put_other j = ⊎_elim low high
    where
      low : j < i → row_at w (put_row w t i r) j ≡ row_at w t j
      low q =
          let m : j * w + w ≤ i * w = row_inside w j i (i * w) q (omega arith) in
          in_front (j * w) w (i * w) (put_row w t i r) m ∙ rw put_before (sym (in_front (j * w) w (i * w) t m))

      high : i < j → row_at w (put_row w t i r) j ≡ row_at w t j
      high q =
          let m : (i + 1) * w ≤ j * w = mul-le-mul_right w (omega arith) in
          let d : j * w ≡ (i + 1) * w + (j * w - (i + 1) * w) = omega arith in
          rw (
            d,
            ← (drop-drop (j * w - (i + 1) * w) ((i + 1) * w) (put_row w t i r)),
            ← (drop-drop (j * w - (i + 1) * w) ((i + 1) * w) t),
            put_behind,
          )
