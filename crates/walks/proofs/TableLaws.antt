-- The rows in use of a table: inside it, and the first of them apart from those behind it. Assumes nothing.
use Prim.Native.Nat.{ℕ, zero, suc, ◌+◌, ◌-◌, ◌*◌, ◌/◌, ◌≤◌, ◌<◌}
use mathlib.Core.Path.{◌≡◌, refl, ap, sym, ◌∙◌}
use mathlib.Core.List.{List, [], ◌∷◌}
use native.Mathlib.Nat.{sub-zero, zero-mul, suc-mul}
use native.Mathlib.Omega.{arith}
use lib.ListN.{length, get_or, take, drop}
use lib.Seq.{take-length, length-take-le}
use Rattle.iff.specs.Tables.{Row, tag, row_width, row_at, rows_in}
use Rattle.iff.specs.declared.File.{File}
use Rattle.tables.proofs.Widths.{widths}
use Rattle.tables.proofs.Rows.{rows_most, row_in_table, row_inside, word_of_row}
use Rattle.keys.specs.Blocks.{rows_between}
use Rattle.keys.proofs.Blocks.{between_in_table}
use Rattle.walks.proofs.GroupLaws.{between_first}

-- the first word of a table is its first row's tag, and its first words that row
module _ (f : File) (t : List ℕ) where
  pub tag_first : get_or t 0 0 ≡ tag (row_at (row_width f) t 0)
  tag_first =
      let z : 0 * row_width f + 0 ≡ 0 = rw zero-mul in
      sym (word_of_row (row_width f) t 0 0 (widths f).some ∙ ap (λ k. get_or t k 0) z)

  pub words_first : (w : ℕ) → w ≡ row_width f → take (w - 0) (drop 0 t) ≡ row_at (row_width f) t 0
  words_first w v = rw (v, sub-zero, zero-mul)

  pub first_wide : (w : ℕ) → w ≡ row_width f → row_width f ≤ length t → length (take (w - 0) (drop 0 t)) ≡ row_width f
  first_wide w v h = rw (v, sub-zero) (length-take-le (row_width f) t h)

module _ (f : File) (t : List ℕ) (used : ℕ) (e : used ≡ length (rows_in f t)) where
  -- the rows in use are in the table
  pub inside : used * row_width f ≤ length t
  inside = go (used) refl
    where
      most : used ≤ length t / row_width f
      most = omega (arith, rows_most (row_width f) (length t / row_width f) t)

      go : (n : ℕ) → used ≡ n → used * row_width f ≤ length t
      go zero q = rw (q, zero-mul) (omega arith)
      go (suc n) q =
          let i : n * row_width f + row_width f ≤ length t = row_in_table (row_width f) n (length t) (omega (arith, most)) in
          rw (q, suc-mul) (omega arith)

  -- the first of them
  pub first_inside : 0 < used → row_width f ≤ length t
  first_inside h =
      let i : 0 * row_width f + row_width f ≤ length t = row_inside (row_width f) 0 used (length t) h inside in
      omega (arith, i, zero-mul (row_width f))

  pub rows_are : rows_between (row_width f) t 0 used ≡ rows_in f t
  rows_are = between_in_table (row_width f) t 0 used (omega arith) (omega (arith, e)) ∙ rw (sub-zero, e, take-length)

  -- the first row and those behind it
  pub parted : 0 < used → rows_in f t ≡ row_at (row_width f) t 0 ∷ rows_between (row_width f) t 1 used
  parted h = sym rows_are ∙ between_first (row_width f) t 0 used h

  -- none at all
  pub no_rows : used ≡ 0 → rows_in f t ≡ []
  no_rows z = none (rows_in f t) (sym e ∙ z)
    where
      none : (rs : List Row) → length rs ≡ 0 → rs ≡ []
      none [] q = refl
      none (r ∷ rs) q = absurd (omega arith)

  -- its first words as a part of the table
  pub first_row_lem : 0 < used
      → (take (row_width f - 0) (drop 0 t) ≡ get_or (rows_in f t) 0 [])
      × (rows_in f t ≡ take (row_width f - 0) (drop 0 t) ∷ rows_between (row_width f) t 1 used)
  first_row_lem h =
      let w : take (row_width f - 0) (drop 0 t) ≡ row_at (row_width f) t 0 = words_first f t (row_width f) refl in
      (w ∙ ap (λ (rs : List Row). get_or rs 0 []) (sym (parted h)), parted h ∙ ap (λ (r : Row). r ∷ rows_between (row_width f) t 1 used) (sym w))
