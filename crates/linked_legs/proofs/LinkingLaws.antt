-- Records that follow each other, row by row. Assumes nothing.
use Prim.Native.Nat.{ℕ, ◌+◌, ◌≤◌, ◌<◌}
use mathlib.Core.Path.{◌≡◌, sym}
use mathlib.Core.List.{List}
use mathlib.Core.Bool.{true, false, and-false}
use lib.Dec.{eqb}
use borrow.Author.Tests.{eq-eqb, ne_eqb}
use Rattle.iff.specs.Bytes.{percent, dash, ampersand}
use Rattle.iff.specs.Lists.{all}
use Rattle.iff.specs.Tables.{Row, tag, row_at, row_width}
use Rattle.iff.specs.declared.File.TheVariants.{Timetbls}
use Rattle.iff_rules.specs.Legs.{reach_of, in_range}
use Rattle.legs.specs.declared.Span.{Span}
use Rattle.legs.specs.Rows.{SpanOf}
use Rattle.linked_legs.specs.Links.{block_between, stop_after, linked, all_linked}
use Rattle.linked_legs.proofs.RowLaws.{between_next, between_none}

-- THE STOP AFTER A ROW, case by case
module _ (x at : ℕ) (r : Row) where
  pub after_other : (tag r ≡ x → ⊥) → at ≡ stop_after x at r
  unfolding stop_after
  after_other q = rw (ne_eqb (tag r) x q)

  module _ (e : tag r ≡ x) (s : Span) (o : SpanOf r s) where
    pub after_elsewhere : (s.first ≡ at → ⊥) → 0 ≡ stop_after x at r
    unfolding stop_after
    after_elsewhere q = rw (eq-eqb (tag r) x e, ← o.first, ne_eqb s.first at q)

    pub after_linked : s.first ≡ at → s.last ≡ stop_after x at r
    unfolding stop_after
    after_linked q = rw (eq-eqb (tag r) x e, ← o.first, ← o.last, eq-eqb s.first at q)

-- A LOOP that has come to row i and stop `at`
module _ (x n : ℕ) (t : List ℕ) (i to at : ℕ) where
  pub linked_none : to ≤ i → linked x at n (block_between t i to) ≡ eqb at n
  unfolding linked
  linked_none h = rw (between_none (row_width Timetbls) t i to h)

  module _ (h : i < to) (a : ℕ) (e : a ≡ stop_after x at (row_at (row_width Timetbls) t i)) where
    pub linked_not : a ≡ 0 → linked x at n (block_between t i to) ≡ false
    unfolding linked
    linked_not z = rw (between_next (row_width Timetbls) t i to h, ← e, z)

    pub linked_on : (a ≡ 0 → ⊥) → linked x at n (block_between t i to) ≡ linked x a n (block_between t (i + 1) to)
    unfolding linked
    linked_on q = rw (between_next (row_width Timetbls) t i to h, ← e, ne_eqb a 0 q)

-- ONE PASS over all kinds: what is left is the whole, of each test
pub record Linking (t : List ℕ) (from to n i number validity mode : ℕ) : Type 0 where
  pub ranged : all (in_range reach_of n) (block_between t from to) ≡ all (in_range reach_of n) (block_between t i to)
  pub numbers : linked percent 1 n (block_between t from to) ≡ linked percent number n (block_between t i to)
  pub validities : linked dash 1 n (block_between t from to) ≡ linked dash validity n (block_between t i to)
  pub modes : linked ampersand 1 n (block_between t from to) ≡ linked ampersand mode n (block_between t i to)

module _ (t : List ℕ) (from to n : ℕ) where
  abbrev rows : List Row
  rows = block_between t from to

  -- a test that does not hold
  pub range_fails : all (in_range reach_of n) rows ≡ false → false ≡ all_linked n rows
  unfolding all_linked
  range_fails e = sym (rw e)

  pub numbers_fail : linked percent 1 n rows ≡ false → false ≡ all_linked n rows
  unfolding all_linked
  numbers_fail e = sym (rw (e, and-false))

  pub validities_fail : linked dash 1 n rows ≡ false → false ≡ all_linked n rows
  unfolding all_linked
  validities_fail e = sym (rw (e, and-false, and-false))

  pub modes_fail : linked ampersand 1 n rows ≡ false → false ≡ all_linked n rows
  unfolding all_linked
  modes_fail e = sym (rw (e, and-false, and-false, and-false))

  -- where the others hold, the last decides
  pub all_hold : all (in_range reach_of n) rows ≡ true → linked percent 1 n rows ≡ true → linked dash 1 n rows ≡ true
      → linked ampersand 1 n rows ≡ all_linked n rows
  unfolding all_linked
  all_hold a b d = sym (rw (a, b, d))
