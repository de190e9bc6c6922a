-- The rows that are left of a table from row i on: what a loop over rows has still to do. Assumes nothing.
use Prim.Native.Nat.{ℕ, suc, ◌+◌, ◌-◌, ◌*◌, ◌≤◌, ◌<◌}
use mathlib.Core.Path.{◌≡◌, ap, sym, ◌∙◌}
use mathlib.Core.List.{List, [], ◌∷◌}
use native.Mathlib.Nat.{sub-zero, zero-mul, zero-add, add-zero}
use native.Mathlib.Omega.{arith}
use borrow.Author.Tests.{eq-eqb, ne_eqb}
use lib.ListN.{length, get_or, drop}
use lib.Seq.{get_or-take, drop-drop}
use Rattle.iff.specs.Tables.{Row, word, row_at, rows_up_to}
use Rattle.tables.proofs.Rows.{next_row_lem}

-- the rows from i on, up to n
abbrev pub rest : ℕ → ℕ → List ℕ → ℕ → List Row
rest w n t i = rows_up_to w (n - i) (drop (i * w) t)

pub rest_all : (w n : ℕ) (t : List ℕ) → rest w n t 0 ≡ rows_up_to w n t
rest_all w n t = rw (sub-zero, zero-mul)

module _ (w n : ℕ) (t : List ℕ) (i : ℕ) where
  pub rest_none : n ≤ i → rest w n t i ≡ []
  unfolding rows_up_to
  rest_none h = let z : n - i ≡ 0 = omega arith in rw z

  first_word : 0 < w → get_or (drop (i * w) t) 0 0 ≡ word (row_at w t i) 0
  first_word s = sym (get_or-take w (drop (i * w) t) 0 0 s)

  -- the first row whose first word is 0 ends the table
  pub rest_unused : 0 < w → i < n → word (row_at w t i) 0 ≡ 0 → rest w n t i ≡ []
  unfolding rows_up_to
  rest_unused s h e =
      let m : n - i ≡ suc (n - (i + 1)) = omega arith in
      rw (m, first_word s, eq-eqb _ _ e)

  pub rest_row : 0 < w → i < n → (word (row_at w t i) 0 ≡ 0 → ⊥) → rest w n t i ≡ row_at w t i ∷ rest w n t (i + 1)
  unfolding rows_up_to
  rest_row s h e =
      let m : n - i ≡ suc (n - (i + 1)) = omega arith in
      rw (m, first_word s, ne_eqb _ _ e, next_row_lem, drop-drop)

-- the counting loop: i rows are counted
abbrev pub Counted : ℕ → ℕ → List ℕ → ℕ → Type 0
Counted w n t i = (i ≤ n) × (length (rows_up_to w n t) ≡ i + length (rest w n t i))

module _ (w n : ℕ) (t : List ℕ) where
  pub count_none : Counted w n t 0
  count_none = (omega arith, rw (zero-add, rest_all))

  module _ (i : ℕ) (c : Counted w n t i) where
    pub count_end : rest w n t i ≡ [] → i ≡ length (rows_up_to w n t)
    count_end e = sym (c.1 ∙ rw (e, add-zero))

    pub count_on : i < n → (r : Row) → rest w n t i ≡ r ∷ rest w n t (i + 1) → Counted w n t (i + 1)
    count_on h r e = (omega arith, omega (arith, c.1, ap length e))
