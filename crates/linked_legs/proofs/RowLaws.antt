-- Laws of a loop over some rows of a table: one row more, and what is left to ask is the whole. Assumes nothing.
use Prim.Native.Nat.{ℕ, suc, ◌+◌, ◌-◌, ◌*◌, ◌≤◌, ◌<◌}
use mathlib.Core.Path.{◌≡◌}
use mathlib.Core.List.{List, [], ◌∷◌}
use mathlib.Core.Bool.{Bool, true, false}
use native.Mathlib.Numerals.{add-one}
use native.Mathlib.Omega.{arith}
use lib.ListN.{take, drop}
use Rattle.iff.specs.Lists.{all}
use Rattle.iff.specs.Tables.{Row, row_at, row_width}
use Rattle.iff.specs.declared.File.TheVariants.{Timetbls}
use Rattle.keys.specs.Blocks.{block_of_rows, rows_between}
use Rattle.linked_legs.specs.Links.{block_between}

-- ONE ROW MORE, and none
pub between_next : (w : ℕ) (t : List ℕ) (i to : ℕ) → i < to → rows_between w t i to ≡ (row_at w t i ∷ rows_between w t (i + 1) to)
unfolding block_of_rows
between_next w t i to h =
    let z : to - i ≡ suc (to - suc i) = omega arith in
    rw (z, add-one)

pub between_none : (w : ℕ) (t : List ℕ) (i to : ℕ) → to ≤ i → rows_between w t i to ≡ []
unfolding block_of_rows
between_none w t i to h =
    let z : to - i ≡ 0 = omega arith in
    rw z

-- a part of the table that is as long as a row
pub part_row : (w i : ℕ) (t : List ℕ) → take (i * w + w - i * w) (drop (i * w) t) ≡ row_at w t i
part_row w i t =
    let z : i * w + w - i * w ≡ w = omega arith in
    rw z

-- WHETHER ALL ROWS PASS A TEST
module _ (p : Row → Bool) (t : List ℕ) (i to : ℕ) where
  pub all_none : to ≤ i → all p (block_between t i to) ≡ true
  unfolding all
  all_none h = rw (between_none (row_width Timetbls) t i to h)

  module _ (h : i < to) (b : Bool) (e : b ≡ p (row_at (row_width Timetbls) t i)) where
    pub all_not : b ≡ false → all p (block_between t i to) ≡ false
    unfolding all
    all_not g = rw (between_next (row_width Timetbls) t i to h, ← e, g)

    pub all_on : b ≡ true → all p (block_between t i to) ≡ all p (block_between t (i + 1) to)
    unfolding all
    all_on g = rw (between_next (row_width Timetbls) t i to h, ← e, g)
