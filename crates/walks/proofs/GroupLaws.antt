-- The rows of a table from one number to another, taken apart at either end and at the `#` rows. Assumes nothing.
use Prim.Native.Nat.{ℕ, zero, suc, ◌+◌, ◌-◌, ◌*◌, ◌≤◌, ◌<◌}
use mathlib.Core.Path.{◌≡◌, refl, ap, ◌∙◌}
use mathlib.Core.List.{List, [], ◌∷◌, ◌++◌, append_assoc, append-nil}
use mathlib.Core.Bool.{true, false}
use native.Mathlib.Numerals.{add-one}
use native.Mathlib.Omega.{arith}
use lib.ListN.{take, drop}
use Rattle.iff.specs.Lists.{front, groups}
use Rattle.iff.specs.Tables.{Row, is_hash_row, row_at}
use Rattle.keys.specs.Blocks.{block_of_rows, rows_between}
use Rattle.walks.specs.Heads.{NextHead}

-- a part of a table that is as long as a row is a row
pub part_is_row : (w i : ℕ) (t : List ℕ) → take (i * w + w - i * w) (drop (i * w) t) ≡ row_at w t i
part_is_row w i t =
    let z : i * w + w - i * w ≡ w = omega arith in
    rw z

module _ (w : ℕ) (t : List ℕ) where
  -- where there are none
  pub between_none : (i to : ℕ) → to ≤ i → rows_between w t i to ≡ []
  unfolding block_of_rows
  between_none i to h =
      let z : to - i ≡ 0 = omega arith in
      rw z

  -- the first of them, and those after it
  pub between_first : (i to : ℕ) → i < to → rows_between w t i to ≡ row_at w t i ∷ rows_between w t (suc i) to
  unfolding block_of_rows
  between_first i to h =
      let z : to - i ≡ suc (to - suc i) = omega arith in
      rw z

  block_last : (i k : ℕ) → block_of_rows w t i (suc k) ≡ block_of_rows w t i k ++ (row_at w t (i + k) ∷ [])
  unfolding block_of_rows
  block_last i zero =
      let z : i + 0 ≡ i = omega arith in
      rw z
  block_last i (suc k) =
      let z : i + suc k ≡ suc i + k = omega arith in
      rw z (ap (λ (rs : List Row). row_at w t i ∷ rs) (block_last (suc i) k))

  -- those before the last, and the last
  pub between_last : (from i : ℕ) → from ≤ i → rows_between w t from (suc i) ≡ rows_between w t from i ++ (row_at w t i ∷ [])
  between_last from i h =
      let z : suc i - from ≡ suc (i - from) = omega arith in
      let y : from + (i - from) ≡ i = omega arith in
      rw z (block_last from (i - from) ∙ rw y)

  -- all but the first
  pub between_rest : (from to : ℕ) → drop 1 (rows_between w t from to) ≡ rows_between w t (from + 1) to
  between_rest from to = go (to - from) refl
    where
      go : (k : ℕ) → to - from ≡ k → drop 1 (rows_between w t from to) ≡ rows_between w t (from + 1) to
      go zero e = rw (between_none from to (omega arith), between_none (from + 1) to (omega arith))
      go (suc k) e = rw (between_first from to (omega arith), add-one)

-- a list that begins with an opener, or with something else
module _ (r : Row) (rs : List Row) where
  front_head : is_hash_row r ≡ true → front is_hash_row (r ∷ rs) ≡ []
  unfolding front
  front_head h = rw h

  front_other : is_hash_row r ≡ false → front is_hash_row (r ∷ rs) ≡ r ∷ front is_hash_row rs
  unfolding front
  front_other h = rw h

  groups_head : is_hash_row r ≡ true → groups is_hash_row (r ∷ rs) ≡ record { top = r; rest = front is_hash_row rs } ∷ groups is_hash_row rs
  unfolding groups
  groups_head h = rw h

  groups_other : is_hash_row r ≡ false → groups is_hash_row (r ∷ rs) ≡ groups is_hash_row rs
  unfolding groups
  groups_other h = rw h

-- the group that begins in row i, and those behind it
pub group_at_lem : (w : ℕ) (t : List ℕ) (i to r : ℕ) → i < to → is_hash_row (row_at w t i) ≡ true → NextHead w t (suc i) to r
    → groups is_hash_row (rows_between w t i to) ≡ record { top = row_at w t i; rest = rows_between w t (suc i) r } ∷ groups is_hash_row (rows_between w t r to)
group_at_lem w t i to r l h n =
    rw (between_first w t i to l, groups_head (row_at w t i) (rows_between w t (suc i) to) h, n.until, n.behind)

-- THE WALK to the next head: the rows that were passed begin no group
pub record Passed (w : ℕ) (t : List ℕ) (from to i : ℕ) : Type 0 where
  pub low : from ≤ i
  pub high : i ≤ to
  pub until : front is_hash_row (rows_between w t from to) ≡ rows_between w t from i ++ front is_hash_row (rows_between w t i to)
  pub behind : groups is_hash_row (rows_between w t from to) ≡ groups is_hash_row (rows_between w t i to)

module _ (w : ℕ) (t : List ℕ) (from to : ℕ) where
  pub starts : from ≤ to → Passed w t from to from
  starts h = record {
    low = omega arith;
    high = h;
    until = rw (between_none w t from from (omega arith));
    behind = refl;
  }

  module _ (i : ℕ) (p : Passed w t from to i) where
    pub goes_on : i < to → is_hash_row (row_at w t i) ≡ false → Passed w t from to (i + 1)
    goes_on h e = record {
      low = omega arith;
      high = omega arith;
      until = p.until
          ∙ rw (between_first w t i to h, front_other (row_at w t i) (rows_between w t (suc i) to) e, add-one, between_last w t from i p.low, append_assoc);
      behind = p.behind ∙ rw (between_first w t i to h, groups_other (row_at w t i) (rows_between w t (suc i) to) e, add-one);
    }

    pub stops : i < to → is_hash_row (row_at w t i) ≡ true → NextHead w t from to i
    stops h e = record {
      low = p.low;
      high = p.high;
      until = p.until ∙ rw (between_first w t i to h, front_head (row_at w t i) (rows_between w t (suc i) to) e, append-nil);
      behind = p.behind;
      head = λ l. e;
    }

    pub ends : to ≤ i → NextHead w t from to i
    unfolding front
    ends h = record {
      low = p.low;
      high = p.high;
      until = p.until ∙ rw (between_none w t i to h, append-nil);
      behind = p.behind;
      head = λ l. absurd (omega arith);
    }
