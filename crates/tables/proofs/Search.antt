-- The first row that passes, one row at a time. Assumes nothing.
use Rattle.std.specs.Prelude.{None, Option, Some}
use Prim.Native.Nat.{ℕ, ◌+◌, ◌≤◌, ◌<◌}
use mathlib.Core.Path.{◌≡◌, sym, ◌∙◌}
use mathlib.Core.List.{List}
use mathlib.Core.Bool.{Bool, true, false}
use native.Mathlib.Numerals.{add-one}
use borrow.Author.Tests.{eq-eqb, ne_eqb}
use lib.Dec.{eqb}
use Rattle.iff.specs.Tables.{Row, word, tag, row_at, rows_up_to, keyed, first_row}
use Rattle.tables.proofs.Rest.{rest, rest_all, rest_none, rest_unused, rest_row}

-- a row is keyed as its two words say
module _ (t col key : ℕ) (r : Row) (x : ℕ) (e : x ≡ tag r) where
  pub keyed_not : (x ≡ t → ⊥) → false ≡ keyed t col key r
  keyed_not h = rw (← e, ne_eqb x t h)

  pub keyed_by : (y : ℕ) → y ≡ word r col → x ≡ t → eqb y key ≡ keyed t col key r
  keyed_by y f h = rw (← e, eq-eqb x t h, ← f)

-- from row 0 on it is the first of all
pub search_all : (p : Row → Bool) (t : List ℕ) (w n : ℕ) (r : Option ℕ) → r ≡ first_row p 0 (rest w n t 0) → r ≡ first_row p 0 (rows_up_to w n t)
search_all p t w n r e = e ∙ rw rest_all

-- the first among the rows from i on
module _ (p : Row → Bool) (t : List ℕ) (w n i : ℕ) where
  pub search_none : n ≤ i → first_row p i (rest w n t i) ≡ None
  unfolding first_row
  search_none h = rw (rest_none w n t i h)

  -- row i, whose first word is x
  module _ (s : 0 < w) (h : i < n) (x : ℕ) (e : x ≡ word (row_at w t i) 0) where
    pub search_unused : x ≡ 0 → first_row p i (rest w n t i) ≡ None
    unfolding first_row
    search_unused z = rw (rest_unused w n t i s h (sym e ∙ z))

    -- whether it passes is b
    pub search_here : (x ≡ 0 → ⊥) → (b : Bool) → b ≡ p (row_at w t i) → b ≡ true → first_row p i (rest w n t i) ≡ Some i
    unfolding first_row
    search_here u b f g = rw (rest_row w n t i s h (λ z. u (e ∙ z)), ← f, g)

    pub search_on : (x ≡ 0 → ⊥) → (b : Bool) → b ≡ p (row_at w t i) → b ≡ false → first_row p i (rest w n t i) ≡ first_row p (i + 1) (rest w n t (i + 1))
    unfolding first_row
    search_on u b f g = rw (rest_row w n t i s h (λ z. u (e ∙ z)), ← f, g, add-one)
