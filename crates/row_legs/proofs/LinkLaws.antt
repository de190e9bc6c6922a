-- Records that follow each other from stop 1 to stop n cover each leg once. Assumes nothing.
use Prim.Native.Nat.{ℕ, zero, suc, ◌+◌, ◌-◌, ◌≤◌, ◌<◌}
use mathlib.Core.Path.{◌≡◌, refl, sym, ◌∙◌}
use mathlib.Core.List.{List, [], ◌∷◌}
use mathlib.Core.Bool.{Bool, true, false, not, false≢true}
use native.Mathlib.Omega.{arith}
use lib.Dec.{eqb, ltb}
use borrow.Author.Tests.{eqb-true, eqb-false, lt-leb, ltb-true, ltb-false}
use Rattle.text.proofs.PictureLaws.{and_left, and_right}
use Rattle.iff.specs.Bytes.{percent, dash, ampersand}
use Rattle.iff.specs.Lists.{all, any, total}
use Rattle.iff.specs.Tables.{Row, tag}
use Rattle.iff_rules.specs.Legs.{first_stop, last_stop, reach_of, in_range, covered, of_kind, stops_of, legs}
use Rattle.legs.specs.declared.Span.{Span}
use Rattle.legs.specs.Rows.{covers, SpanOf}
use Rattle.leg_marks.specs.Once.{once_to}
use Rattle.leg_marks.proofs.MarkLaws.{within, within_yes, within_not, once_covered}
use Rattle.legs.proofs.RowLaws.{kind_times}
use Rattle.legs.proofs.SpanLaws.{Ranged, range_of, times_same, times_other}
use Rattle.linked_legs.specs.Links.{stop_after, linked, all_linked}
use Rattle.row_legs.specs.Blocks.{rows_times}

-- LEGS from stop to stop
within_before : (first last k : ℕ) → k < first → within first last k ≡ 0
within_before first last k l = rw (lt-leb first k l)

within_none : (a k : ℕ) → within a a k ≡ 0
within_none a k = go (ltb k a) refl
  where
    go : (b : Bool) → ltb k a ≡ b → within a a k ≡ 0
    go true e = within_before a a k (ltb-true k a e)
    go false e = within_not a a k (ltb-false k a e)

-- the legs from a to b and those from b to c are those from a to c
within_joined : (a b c k : ℕ) → a ≤ b → b ≤ c → within a b k + within b c k ≡ within a c k
within_joined a b c k p q = go (ltb k a) refl (ltb k b) refl (ltb k c) refl
  where
    go : (u : Bool) → ltb k a ≡ u → (v : Bool) → ltb k b ≡ v → (z : Bool) → ltb k c ≡ z → within a b k + within b c k ≡ within a c k
    go true e v f z g =
        let l : k < a = ltb-true k a e in
        omega (arith, within_before a b k l, within_before b c k (omega arith), within_before a c k l)
    go false e true f z g =
        let l : a ≤ k = ltb-false k a e in
        let m : k < b = ltb-true k b f in
        omega (arith, within_yes a b k l m, within_before b c k m, within_yes a c k l (omega arith))
    go false e false f true g =
        let l : b ≤ k = ltb-false k b f in
        let m : k < c = ltb-true k c g in
        omega (arith, within_not a b k l, within_yes b c k l m, within_yes a c k (omega arith) m)
    go false e false f false g =
        let l : b ≤ k = ltb-false k b f in
        let m : c ≤ k = ltb-false k c g in
        omega (arith, within_not a b k l, within_not b c k m, within_not a c k m)

-- linked records of a kind, all in range, lie on each leg from stop `at` to stop n, once
record Reaching (x at n : ℕ) (rs : List Row) : Type 0 where
  low : at ≤ n
  once : (k : ℕ) → rows_times x rs k ≡ within at n k

reaching : (x n : ℕ) → covers x ≡ true → (rs : List Row) → all (in_range reach_of n) rs ≡ true → (at : ℕ) → linked x at n rs ≡ true → Reaching x at n rs
unfolding all total linked stop_after
reaching x n c [] a at l =
    let e : at ≡ n = eqb-true at n l in
    record { low = omega arith; once = λ k. rw e (sym (within_none n k)) }
reaching x n c (r ∷ rs) a at l =
    row (eqb (tag r) x) refl (eqb (first_stop r) at) refl (reaching x n c rs (and_right (in_range reach_of n r) _ a))
  where
    row : (b : Bool) → eqb (tag r) x ≡ b → (d : Bool) → eqb (first_stop r) at ≡ d
        → ((at : ℕ) → linked x at n rs ≡ true → Reaching x at n rs) → Reaching x at n (r ∷ rs)
    row true e true q ih =
        let s : Span = record { first = first_stop r; last = last_stop r } in
        let o : SpanOf r s = record { first = refl; last = refl } in
        let t : tag r ≡ x = eqb-true (tag r) x e in
        let g : Ranged n s = range_of r n x t s o c (and_left (in_range reach_of n r) _ a) in
        let f : first_stop r ≡ at = eqb-true (first_stop r) at q in
        let m : linked x (last_stop r) n rs ≡ true = and_right (not (eqb (last_stop r) 0)) _ (rw (e, q) at l) in
        let y = ih (last_stop r) m in
        record {
          low = omega (arith, g, f);
          once = λ k.
              let j = within_joined (first_stop r) (last_stop r) n k (omega (arith, g)) y.low in
              rw (← f) (omega (arith, times_same r n x t s o k, y.once k, j));
        }
    row true e false q ih = absurd (false≢true (rw (e, q) at l))
    row false e d q ih =
        let m : linked x at n rs ≡ true = and_right (not (eqb at 0)) _ (rw e at l) in
        let y = ih at m in
        record {
          low = y.low;
          once = λ k. omega (arith, times_other r x k (eqb-false (tag r) x e), y.once k);
        }

-- and so each of n stops' legs lies in one
once_each : (n m : ℕ) → m < n → once_to m (within 1 n) ≡ true
unfolding once_to
once_each n zero h = refl
once_each n (suc m) h = rw (within_yes 1 n (suc m) (omega arith) h, once_each n m (omega arith))

pub linked_covers : (x n : ℕ) → covers x ≡ true → (rs : List Row) → all (in_range reach_of n) rs ≡ true → linked x 1 n rs ≡ true
    → covered (n - 1) (of_kind x rs) ≡ true
linked_covers x n c rs a l =
    let y = reaching x n c rs a 1 l in
    sym (once_covered (of_kind x rs) (within 1 n) (λ k. sym (kind_times x k rs ∙ y.once k)) (n - 1))
    ∙ once_each n (n - 1) (omega (arith, y.low))

-- records that are all linked cover each leg once, of every kind
pub linked_legs : (n : ℕ) (rs : List Row) → n ≡ stops_of rs → all_linked n rs ≡ true → true ≡ legs reach_of rs
unfolding all_linked legs covers any
linked_legs n rs s e =
    let a = and_left (all (in_range reach_of n) rs) _ e in
    let f = and_right (all (in_range reach_of n) rs) _ e in
    let g = and_right (linked percent 1 n rs) _ f in
    let p = linked_covers percent n refl rs a (and_left (linked percent 1 n rs) _ f) in
    let d = linked_covers dash n refl rs a (and_left (linked dash 1 n rs) _ g) in
    let m = linked_covers ampersand n refl rs a (and_right (linked dash 1 n rs) _ g) in
    sym (rw (← s, a, p, d, m))
