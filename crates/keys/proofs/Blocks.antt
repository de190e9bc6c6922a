-- Some rows of a table: of its own rows, of those it was filled with, and one at a time. Assumes nothing.
use Prim.Native.Nat.{ℕ, zero, suc, ◌+◌, ◌-◌, ◌*◌, ◌/◌, ◌≤◌, ◌<◌}
use mathlib.Core.Path.{◌≡◌, refl, ap, ◌∙◌}
use mathlib.Core.List.{List, [], ◌∷◌, ◌++◌}
use mathlib.Core.Bool.{Bool, true, false}
use native.Mathlib.Nat.{add-zero}
use native.Mathlib.Numerals.{add-one}
use native.Mathlib.Omega.{arith}
use lib.ListN.{length, take, drop}
use lib.Seq.{drop-cons}
use Rattle.iff.specs.Lists.{any}
use Rattle.iff.specs.Tables.{Row, row_at, fill, rows_up_to, rows_of_width}
use Rattle.tables.proofs.Each.{Each}
use Rattle.tables.proofs.Rows.{Used, row_is}
use Rattle.tables.proofs.Filled.{rows_in_fill}
use Rattle.keys.specs.Blocks.{block_of_rows, rows_between}

-- rows that are in use are among the table's rows
pub block_in_rows : (w n : ℕ) (t : List ℕ) (i k : ℕ) → i + k ≤ length (rows_up_to w n t) → block_of_rows w t i k ≡ take k (drop i (rows_up_to w n t))
unfolding block_of_rows
block_in_rows w n t i zero h = refl
block_in_rows w n t i (suc k) h =
    let b : i < length (rows_up_to w n t) = omega arith in
    rw (drop-cons (rows_up_to w n t) i [] b, row_is w n t i b, block_in_rows w n t (suc i) k (omega arith))

pub between_in_table : (w : ℕ) (t : List ℕ) (from to : ℕ) → from ≤ to → to ≤ length (rows_of_width w t)
    → rows_between w t from to ≡ take (to - from) (drop from (rows_of_width w t))
between_in_table w t from to l h = block_in_rows w (length t / w) t from (to - from) (omega arith)

-- and among those that it was filled with
pub between_in_fill : (w : ℕ) → 0 < w → (n : ℕ) (rs : List Row) → Each (Used w) rs → length rs * w ≤ n → (from to : ℕ) → from ≤ to → to ≤ length rs
    → rows_between w (fill w n rs) from to ≡ take (to - from) (drop from rs)
between_in_fill w s n rs u h from to l g =
    let e = rows_in_fill w s n rs u h in
    between_in_table w (fill w n rs) from to l (rw e g) ∙ ap (λ (l : List Row). take (to - from) (drop from l)) e

-- the loop over the rows from i on
module _ (p : Row → Bool) (w : ℕ) (t : List ℕ) (to i : ℕ) where
  pub none_left : to ≤ i → any p (rows_between w t i to) ≡ false
  unfolding any block_of_rows
  none_left h =
      let z : to - i ≡ 0 = omega arith in
      rw z

  module _ (h : i < to) (b : Bool) (e : b ≡ p (row_at w t i)) where
    pub one_here : b ≡ true → any p (rows_between w t i to) ≡ true
    unfolding any block_of_rows
    one_here g =
        let z : to - i ≡ suc (to - suc i) = omega arith in
        rw (z, ← e, g)

    pub one_on : b ≡ false → any p (rows_between w t i to) ≡ any p (rows_between w t (i + 1) to)
    unfolding any block_of_rows
    one_on g =
        let z : to - i ≡ suc (to - suc i) = omega arith in
        rw (z, ← e, g, add-one)

-- with one row more, at the start and at the end
pub between_first : (w : ℕ) (t : List ℕ) (i to : ℕ) → i < to → rows_between w t i to ≡ row_at w t i ∷ rows_between w t (suc i) to
unfolding block_of_rows
between_first w t i to h =
    let z : to - i ≡ suc (to - suc i) = omega arith in
    rw z

block_last : (w : ℕ) (t : List ℕ) (i k : ℕ) → block_of_rows w t i (suc k) ≡ block_of_rows w t i k ++ (row_at w t (i + k) ∷ [])
unfolding block_of_rows
block_last w t i zero = rw add-zero
block_last w t i (suc k) =
    let z : suc i + k ≡ i + suc k = omega arith in
    ap (λ (l : List Row). row_at w t i ∷ l) (rw z at (block_last w t (suc i) k))

pub between_next : (w : ℕ) (t : List ℕ) (from i : ℕ) → from ≤ i
    → rows_between w t from (suc i) ≡ rows_between w t from i ++ (row_at w t i ∷ [])
between_next w t from i h =
    let z : suc i - from ≡ suc (i - from) = omega arith in
    let y : from + (i - from) ≡ i = omega arith in
    ap (block_of_rows w t from) z ∙ rw y at (block_last w t from (i - from))
