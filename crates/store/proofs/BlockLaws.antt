-- A service's block, by the number of lines that its `#` row tells. Assumes nothing.
use Rattle.std.specs.Prelude.{Option, Some}
use Prim.Native.Nat.{ℕ, suc, ◌+◌, ◌-◌, ◌≤◌}
use mathlib.Core.Path.{◌≡◌, refl, ap, sym, ◌∙◌}
use mathlib.Core.List.{List, [], ◌∷◌}
use mathlib.Core.Bool.{Bool, true, false, cond}
use native.Mathlib.Nat.{sub-zero, le_trans, mul-le-mul_right}
use native.Mathlib.Omega.{arith}
use lib.ListN.{length, take, drop, length-drop}
use Rattle.iff.specs.Lists.{front}
use Rattle.iff.specs.Tables.{Row, is_hash_row, row_width, row_at, rows_in}
use Rattle.iff.specs.Words.{line_count}
use Rattle.iff.specs.declared.File.TheVariants.{Timetbls}
use Rattle.iff_desk.specs.Store.{group_of}
use Rattle.keys.specs.Lookup.{FoundRow}
use Rattle.keys.proofs.Blocks.{between_in_table}
use Rattle.walks.proofs.GroupLaws.{between_first}
use Rattle.store.specs.Found.{Stored, HasGroups, GroupAt, BlocksTold}
use Rattle.store.proofs.FirstLaws.{used_fits, found_inside, row_of, group_from, own_group}

pub has_blocks : HasGroups Timetbls
has_blocks = record { tag = refl; word = refl }

-- the rows before the next `#` are so many first ones
front_first : (rs : List Row) → front is_hash_row rs ≡ take (length (front is_hash_row rs)) rs
unfolding front
front_first [] = refl
front_first (r ∷ rs) = go (is_hash_row r) (front_first rs)
  where
    go : (b : Bool) → front is_hash_row rs ≡ take (length (front is_hash_row rs)) rs
        → cond b [] (r ∷ front is_hash_row rs) ≡ take (length (cond b [] (r ∷ front is_hash_row rs))) (r ∷ rs)
    go true e = refl
    go false e = ap (λ (l : List Row). r ∷ l) e

front_few : (rs : List Row) → length (front is_hash_row rs) ≤ length rs
unfolding front
front_few [] = omega arith
front_few (r ∷ rs) = go (is_hash_row r) (front_few rs)
  where
    go : (b : Bool) → length (front is_hash_row rs) ≤ length rs → length (cond b [] (r ∷ front is_hash_row rs)) ≤ suc (length rs)
    go true h = omega arith
    go false h = omega (arith, h)

-- the block that a service's row opens
module _ (used : ℕ) (t : List ℕ) (s : Stored Timetbls used t) (key : ℕ) (o : Option ℕ) (h : FoundRow Timetbls used t key o) (i : ℕ) (e : o ≡ Some i) where
  abbrev later : List Row
  later = drop (suc i) (rows_in Timetbls t)

  block_rows_lem : group_of key (rows_in Timetbls t) ≡ row_at (row_width Timetbls) t i ∷ front is_hash_row later
  block_rows_lem =
      own_group Timetbls used t s key has_blocks o h
      ∙ ap (group_from 0 (rows_in Timetbls t)) e
      ∙ rw (row_of Timetbls used t s key i (found_inside Timetbls used t s key o h i e), sub-zero)

  module _ (b : BlocksTold t) (n : ℕ) (q : n ≡ line_count (row_at (row_width Timetbls) t i)) where
    lines_are : n ≡ suc (length (front is_hash_row later))
    lines_are =
        let l : suc (length (front is_hash_row later)) ≡ line_count (row_at (row_width Timetbls) t i) = rw block_rows_lem at (b.lines key) in
        q ∙ sym l

    pub block_fits : i + n ≤ used
    block_fits =
        omega (arith, lines_are, front_few later, length-drop (suc i) (rows_in Timetbls t), s.counted, found_inside Timetbls used t s key o h i e)

    behind_first : front is_hash_row later ≡ take (i + n - suc i) later
    behind_first =
        let z : length (front is_hash_row later) ≡ i + n - suc i = omega (arith, lines_are) in
        front_first later ∙ ap (λ (k : ℕ). take k later) z

    pub block_found : GroupAt Timetbls used t key (record { from = i; to = i + n })
    block_found =
        record {
          is = block_rows_lem
              ∙ ap (λ (l : List Row). row_at (row_width Timetbls) t i ∷ l)
              (behind_first
              ∙ sym (between_in_table (row_width Timetbls) t (suc i) (i + n) (omega (arith, lines_are)) (omega (arith, block_fits, s.counted))))
              ∙ sym (between_first (row_width Timetbls) t i (i + n) (omega (arith, lines_are)));
          inside = record {
            order = omega arith;
            fits = le_trans (mul-le-mul_right (row_width Timetbls) block_fits) (used_fits Timetbls used t s);
          };
          in_use = block_fits;
        }
