-- Laws of spans: first and last of a row in range, and the marks of one record. Assumes nothing.
use Prim.Native.Nat.{ℕ, ◌≤◌, ◌<◌}
use mathlib.Core.Path.{◌≡◌, refl, sym}
use mathlib.Core.List.{List}
use mathlib.Core.Bool.{Bool, true, false, ◌&&◌, and-false, false≢true}
use native.Mathlib.Omega.{arith}
use lib.Dec.{eqb, leb, ltb}
use borrow.Author.Tests.{eq-eqb, ne_eqb, le-leb, lt-leb, lt-ltb, le-ltb, leb-true, ltb-true}
use Rattle.text.proofs.PictureLaws.{and_left, and_right}
use Rattle.iff.specs.Bytes.{percent, dash, ampersand, asterisk}
use Rattle.iff.specs.Lists.{any}
use Rattle.iff.specs.Tables.{Row, tag}
use Rattle.iff.specs.Words.{named, train_first, train_last, record_first, record_last}
use Rattle.iff_rules.specs.Legs.{first_stop, last_stop, reach_of, in_range, ranged, ranged_by}
use Rattle.leg_marks.specs.Tally.{Tally}
use Rattle.leg_marks.proofs.MarkLaws.{within}
use Rattle.legs.specs.declared.Span.{Span}
use Rattle.legs.specs.Rows.{covers, names_stops, times, SpanOf, Markable}

-- WHERE FIRST AND LAST STAND
pub span_percent : (r : Row) → tag r ≡ percent → SpanOf r (record { first = train_first r; last = train_last r })
span_percent r q = let t = eq-eqb (tag r) percent q in record { first = rw t; last = rw t }

pub span_other : (r : Row) → (tag r ≡ percent → ⊥) → SpanOf r (record { first = record_first r; last = record_last r })
span_other r q = let t = ne_eqb (tag r) percent q in record { first = rw t; last = rw t }

-- RANGES, by a record's span, test by test
module _ (n : ℕ) (r : Row) (s : Span) (o : SpanOf r s) where
  pub strict_low : s.first < 1 → false ≡ ranged n r
  strict_low h = rw (← o.first, lt-leb 1 s.first h)

  pub loose_low : s.first < 1 → false ≡ ranged_by (reach_of (named r)) n r
  loose_low h = rw (← o.first, lt-leb 1 s.first h)

  pub strict_none : s.last ≤ s.first → false ≡ ranged n r
  strict_none h = rw (← o.first, ← o.last, le-ltb s.first s.last h, and-false)

  pub loose_none : s.last < s.first → false ≡ ranged_by (reach_of (named r)) n r
  loose_none h = rw (← o.first, ← o.last, lt-leb s.first s.last h, and-false)

  pub strict_last : 1 ≤ s.first → s.first < s.last → leb s.last n ≡ ranged n r
  strict_last a h = rw (← o.first, ← o.last, le-leb 1 s.first a, lt-ltb s.first s.last h)

  pub loose_last : 1 ≤ s.first → s.first ≤ s.last → leb s.last n ≡ ranged_by (reach_of (named r)) n r
  loose_last a h = rw (← o.first, ← o.last, le-leb 1 s.first a, le-leb s.first s.last h)

-- which test a tag asks
module _ (n : ℕ) (r : Row) where
  pub percent_range : tag r ≡ percent → ranged n r ≡ in_range reach_of n r
  unfolding in_range
  percent_range e = rw e

  pub dash_range : tag r ≡ dash → ranged n r ≡ in_range reach_of n r
  unfolding in_range
  dash_range e = rw e

  pub ampersand_range : tag r ≡ ampersand → ranged n r ≡ in_range reach_of n r
  unfolding in_range
  ampersand_range e = rw e

  pub asterisk_range : tag r ≡ asterisk → ranged_by (reach_of (named r)) n r ≡ in_range reach_of n r
  unfolding in_range
  asterisk_range e = rw e

  pub no_range : (tag r ≡ percent → ⊥) → (tag r ≡ dash → ⊥) → (tag r ≡ ampersand → ⊥) → (tag r ≡ asterisk → ⊥) → true ≡ in_range reach_of n r
  unfolding in_range
  no_range a b c d = rw (ne_eqb (tag r) percent a, ne_eqb (tag r) dash b, ne_eqb (tag r) ampersand c, ne_eqb (tag r) asterisk d)

  -- a record that names no stops asks none
  pub no_stops : names_stops (tag r) ≡ false → true ≡ in_range reach_of n r
  unfolding names_stops any
  no_stops e = no_range (λ q. wrong (rw q at e)) (λ q. wrong (rw q at e)) (λ q. wrong (rw q at e)) (λ q. wrong (rw q at e))
    where
      wrong : true ≡ false → ⊥
      wrong q = false≢true (sym q)

-- a record of a kind that covers is in range only strictly
pub ranged_of : (n x : ℕ) (r : Row) → covers x ≡ true → tag r ≡ x → in_range reach_of n r ≡ true → ranged n r ≡ true
unfolding covers any in_range
ranged_of n x r c t e = one_of (eqb x percent) refl (eqb x dash) refl (eqb x ampersand) refl
  where
    one_of : (a : Bool) → eqb x percent ≡ a → (b : Bool) → eqb x dash ≡ b → (d : Bool) → eqb x ampersand ≡ d → ranged n r ≡ true
    one_of true p b q d w = rw (t, p) (rw (t, p) at e)
    one_of false p true q d w = rw (t, p) (rw (t, p, q) at e)
    one_of false p false q true w = rw (t, p) (rw (t, p, q, w) at e)
    one_of false p false q false w = absurd (false≢true (rw (p, q, w) at c))

-- MARKS. The range of a record that covers legs
pub record Ranged (n : ℕ) (s : Span) : Type 0 where
  pub from : 1 ≤ s.first
  pub some : s.first < s.last
  pub to : s.last ≤ n

module _ (r : Row) (n x : ℕ) (e : tag r ≡ x) (s : Span) (o : SpanOf r s) where
  pub range_of : covers x ≡ true → in_range reach_of n r ≡ true → Ranged n s
  range_of k w =
      let q : ranged n r ≡ true = ranged_of n x r k e w in
      let b : (ltb (first_stop r) (last_stop r) && leb (last_stop r) n) ≡ true = and_right (leb 1 (first_stop r)) _ q in
      record {
        from = rw o.first (leb-true 1 (first_stop r) (and_left (leb 1 (first_stop r)) _ q));
        some = rw (o.first, o.last) (ltb-true (first_stop r) (last_stop r) (and_left (ltb (first_stop r) (last_stop r)) _ b));
        to = rw o.last (leb-true (last_stop r) n (and_right (ltb (first_stop r) (last_stop r)) _ b));
      }

  pub span_ranged : (room : ℕ) → Markable r n x room → Ranged n s
  span_ranged room m = range_of m.kind m.within

  pub times_same : (k : ℕ) → times x k r ≡ within s.first s.last k
  unfolding times
  times_same k = rw (eq-eqb (tag r) x e, o.first, o.last)

  -- a record of the kind marks its legs
  pub this_kind : (was is : List ℕ) (b : Bool) → Ranged n s → Tally s.first s.last (within s.first s.last) was is b
      → Tally 1 n (λ k. times x k r) was is b
  this_kind was is b g t =
      record {
        yes = λ q k. omega (arith, t.yes q k, times_same k);
        no = λ q. let d = t.no q in
            record {
              leg = d.leg;
              from = omega (arith, d.from, g.from);
              to = omega (arith, d.to, g.to);
              twice = omega (arith, d.twice, times_same d.leg);
            };
      }

-- one of another kind leaves the marks
pub times_other : (r : Row) (x k : ℕ) → (tag r ≡ x → ⊥) → times x k r ≡ 0
unfolding times
times_other r x k q = rw (ne_eqb (tag r) x q)

pub other_kind : (r : Row) (n x : ℕ) (was : List ℕ) → (tag r ≡ x → ⊥) → Tally 1 n (λ k. times x k r) was was true
other_kind r n x was q =
    record {
      yes = λ _ k. omega (arith, times_other r x k q);
      no = λ e. absurd (let z : ◌≡◌ {A = ℕ} 0 1 = cc in omega arith);
    }
