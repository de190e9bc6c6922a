-- The first row that passes is one of the rows, and passes. Laws of the definitions alone. Assumes nothing.
use Rattle.std.specs.Prelude.{None, Option, Some}
use Rattle.std.specs.Option.{is_some}
use Prim.Native.Nat.{ℕ, suc, ◌+◌, ◌-◌, ◌*◌, ◌/◌, ◌≤◌, ◌<◌}
use mathlib.Core.Path.{◌≡◌, refl, ap, sym}
use mathlib.Core.List.{List, [], ◌∷◌}
use mathlib.Core.Bool.{Bool, true, false, ◌||◌, cond, true≢false}
use native.Mathlib.Nat.{sub-zero}
use native.Mathlib.Omega.{arith}
use lib.ListN.{length, get_or, drop}
use Rattle.iff.specs.Lists.{any}
use Rattle.iff.specs.Tables.{Row, row_at, rows_up_to, rows_of_width, first_row}
use Rattle.tables.proofs.Rows.{row_inside, row_in_table, row_behind, rows_most, row_is}

abbrev number_of : Option ℕ → ℕ
number_of (Some i) = i
number_of None = 0

-- there is such a row exactly when a first one is found
pub any_found : (p : Row → Bool) (i : ℕ) (rs : List Row) → is_some (first_row p i rs) ≡ any p rs
unfolding first_row any
any_found p i [] = refl
any_found p i (r ∷ rs) = go (p r) (any_found p (suc i) rs)
  where
    go : (b : Bool) → is_some (first_row p (suc i) rs) ≡ any p rs → is_some (cond b (Some i) (first_row p (suc i) rs)) ≡ (b || any p rs)
    go true e = refl
    go false e = e

-- row i of the list is there, and passes
pub record Passing (p : Row → Bool) (rs : List Row) (i : ℕ) : Type 0 where
  pub inside : i < length rs
  pub passes : p (get_or rs i []) ≡ true

pub first_passing : (p : Row → Bool) (k : ℕ) (rs : List Row) (i : ℕ) → first_row p k rs ≡ Some i → (k ≤ i) × Passing p rs (i - k)
unfolding first_row
first_passing p k [] i e = absurd (true≢false (sym (ap is_some e)))
first_passing p k (r ∷ rs) i e = go (p r) refl e (first_passing p (suc k) rs i)
  where
    go : (b : Bool) → p r ≡ b → cond b (Some k) (first_row p (suc k) rs) ≡ Some i
        → (first_row p (suc k) rs ≡ Some i → (suc k ≤ i) × Passing p rs (i - suc k))
        → (k ≤ i) × Passing p (r ∷ rs) (i - k)
    go true q e ih =
        let s : k ≡ i = ap number_of e in
        let z : i - k ≡ 0 = omega arith in
        (omega arith, rw z (record { inside = omega arith; passes = q }))
    go false q e ih =
        let h = ih e in
        let z : i - k ≡ suc (i - suc k) = omega arith in
        (omega arith, rw z (record { inside = omega (arith, h.1.inside); passes = h.1.passes }))

-- a row that is found among those from `from` on and before `to` stands in the table, and passes
pub record FoundRow (p : Row → Bool) (w : ℕ) (t : List ℕ) (from to i : ℕ) : Type 0 where
  pub low : from ≤ i
  pub high : i < to
  pub inside : i * w + w ≤ length t
  pub passes : p (row_at w t i) ≡ true

module _ (p : Row → Bool) (w : ℕ) (t : List ℕ) where
  pub found_between : (from to i : ℕ) → to * w ≤ length t → first_row p from (rows_up_to w (to - from) (drop (from * w) t)) ≡ Some i
      → FoundRow p w t from to i
  found_between from to i h e =
      let f = first_passing p from (rows_up_to w (to - from) (drop (from * w) t)) i e in
      let m = rows_most w (to - from) (drop (from * w) t) in
      let b : i < to = omega (arith, f.1.inside) in
      let k : from + (i - from) ≡ i = omega arith in
      record {
        low = f.0;
        high = b;
        inside = row_inside w i to (length t) b h;
        passes = rw (← k, ← (row_behind w t from (i - from)), ← (row_is w (to - from) (drop (from * w) t) (i - from) f.1.inside)) f.1.passes;
      }

  -- a row that is found in a table is one of its rows
  pub found_row : (i : ℕ) → first_row p 0 (rows_of_width w t) ≡ Some i → FoundRow p w t 0 (length (rows_of_width w t)) i
  found_row i e =
      let f = first_passing p 0 (rows_of_width w t) i e in
      let b : i < length (rows_of_width w t) = rw sub-zero at f.1.inside in
      record {
        low = f.0;
        high = b;
        inside = row_in_table w i (length t) (omega (arith, rows_most w (length t / w) t));
        passes = rw (← (row_is w (length t / w) t i b)) (rw sub-zero at f.1.passes);
      }
