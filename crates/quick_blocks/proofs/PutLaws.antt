-- Laws of rows put into a table one after the other: what stands before and behind them is kept, and they read back. Assumes nothing.
use Prim.Native.Nat.{ℕ, suc, ◌+◌, ◌-◌, ◌*◌, ◌≤◌, ◌<◌}
use mathlib.Core.Path.{◌≡◌, refl, ap, sym, ◌∙◌}
use mathlib.Core.List.{List, [], ◌∷◌}
use mathlib.Core.Logic.{inl}
use native.Mathlib.Omega.{arith}
use lib.ListN.{length, take, drop}
use lib.Seq.{drop-drop, take-take}
use Rattle.iff.specs.Tables.{Row, row_at, put_row}
use Rattle.keys.specs.Blocks.{block_of_rows}
use Rattle.tables.proofs.Each.{Each}
use Rattle.tables.proofs.Rows.{Used}
use Rattle.tables.proofs.Put.{length_put, put_before, put_behind, put_row_lem, put_other}
use Rattle.tables.proofs.Puts.{put_rows}
use Rattle.quick_steps.specs.Steps.{w}

-- fewer words of two tables that begin alike, and of two that end alike
pub take_fewer : (a m : ℕ) (xs ys : List ℕ) → a ≤ m → take m xs ≡ take m ys → take a xs ≡ take a ys
take_fewer a m xs ys h e = sym (take-take a m xs h) ∙ ap (take a) e ∙ take-take a m ys h

pub drop_more : (a m : ℕ) (xs ys : List ℕ) → a ≤ m → drop a xs ≡ drop a ys → drop m xs ≡ drop m ys
drop_more a m xs ys h e =
    let d : m ≡ a + (m - a) = omega arith in
    rw (d, ← (drop-drop (m - a) a xs), ← (drop-drop (m - a) a ys), e)

-- ONE ROW
module _ (t : List ℕ) (i : ℕ) (r : Row) (l : length r ≡ w) (h : i * w + w ≤ length t) where
  pub kept_before : (a : ℕ) → a ≤ i * w → take a (put_row w t i r) ≡ take a t
  kept_before a g = take_fewer a (i * w) (put_row w t i r) t g (put_before w t i r l h)

  pub kept_behind : (a : ℕ) → (i + 1) * w ≤ a → drop a (put_row w t i r) ≡ drop a t
  kept_behind a g = drop_more ((i + 1) * w) a (put_row w t i r) t g (put_behind w t i r l h)

-- SOME ROWS
row_kept : (rs : List Row) → Each (Used w) rs → (t : List ℕ) (i : ℕ) → (i + length rs) * w ≤ length t → (j : ℕ) → j < i
    → row_at w (put_rows w t i rs) j ≡ row_at w t j
unfolding put_rows
row_kept [] u t i h j g = refl
row_kept (r ∷ rs) u t i h j g =
    let m : i * w + w ≤ length t = omega arith in
    row_kept rs u.1 (put_row w t i r) (suc i) (omega (arith, length_put w t i r u.0.0 m)) j (omega arith)
    ∙ put_other w t i r u.0.0 m j (inl g)

pub rows_back : (rs : List Row) → Each (Used w) rs → (t : List ℕ) (i : ℕ) → (i + length rs) * w ≤ length t
    → block_of_rows w (put_rows w t i rs) i (length rs) ≡ rs
unfolding put_rows block_of_rows
rows_back [] u t i h = refl
rows_back (r ∷ rs) u t i h =
    let m : i * w + w ≤ length t = omega arith in
    let n : (suc i + length rs) * w ≤ length (put_row w t i r) = omega (arith, length_put w t i r u.0.0 m) in
    rw (
      row_kept rs u.1 (put_row w t i r) (suc i) n i (omega arith) ∙ put_row_lem w t i r u.0.0 m,
      rows_back rs u.1 (put_row w t i r) (suc i) n,
    )
