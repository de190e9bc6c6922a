-- The record of a kind that a leg lies in: the first of the rows that pass both tests, and a record's span. Assumes nothing.
use Prim.Native.Nat.{ℕ, ◌+◌, ◌-◌, ◌*◌, ◌≤◌, ◌<◌}
use mathlib.Core.Path.{◌≡◌, refl, ap}
use mathlib.Core.List.{List, [], ◌∷◌}
use mathlib.Core.Bool.{Bool, true, false, ◌&&◌, cond}
use borrow.Author.Tests.{lt-leb, le-leb, eq-eqb}
use lib.Dec.{eqb, ltb}
use lib.ListN.{get_or, take, drop}
use Rattle.iff.specs.Lists.{kept}
use Rattle.iff.specs.Tables.{Row, tag, row_at}
use Rattle.iff_rules.specs.Rows.{first_of}
use Rattle.iff_rules.specs.Legs.{lies}
use Rattle.iff_desk.specs.Store.{record_on}
use Rattle.legs.specs.Rows.{SpanOf}
use Rattle.legs.specs.declared.Span.{Span}
use Rattle.walks.proofs.GroupLaws.{part_is_row}
use Rattle.service_rows.specs.Lies.{lies_in}

-- those that pass two tests
pub kept_kept : (p q : Row → Bool) (rs : List Row) → kept p (kept q rs) ≡ kept (λ r. q r && p r) rs
unfolding kept
kept_kept p q [] = refl
kept_kept p q (r ∷ rs) = go (q r) (kept_kept p q rs)
  where
    go : (b : Bool) → kept p (kept q rs) ≡ kept (λ r. q r && p r) rs
        → kept p (cond b (r ∷ kept q rs) (kept q rs)) ≡ cond (b && p r) (r ∷ kept (λ r. q r && p r) rs) (kept (λ r. q r && p r) rs)
    go true e = rw e
    go false e = e

-- the record of a kind that a leg lies in
pub record_on_lem : (kind k : ℕ) (rs : List Row) → record_on kind k rs ≡ get_or (kept (lies_in kind k) rs) 0 []
unfolding record_on
record_on_lem kind k rs = ap first_of (kept_kept (lies k) (λ r. eqb (tag r) kind) rs)

-- A RECORD'S SPAN, by the part of the table that is its row
pub span_row : (w i : ℕ) (t : List ℕ) (s : Span) → SpanOf (take (i * w + w - i * w) (drop (i * w) t)) s → SpanOf (row_at w t i) s
span_row w i t s h = rw (part_is_row w i t) at h

module _ (kind leg : ℕ) (r : Row) (s : Span) (h : SpanOf r s) (x : ℕ) (e : x ≡ tag r) (k : x ≡ kind) where
  pub lies_behind : leg < s.first → false ≡ lies_in kind leg r
  lies_behind l = rw (← h.first, lt-leb _ _ l, ← e, eq-eqb x kind k)

  pub lies_by_last : s.first ≤ leg → ltb leg s.last ≡ lies_in kind leg r
  lies_by_last l = rw (← h.first, le-leb _ _ l, ← h.last, ← e, eq-eqb x kind k)
