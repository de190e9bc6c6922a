-- The rules' legs are right exactly when every range is and every leg lies in exactly one record of each kind.
use Prim.Native.Nat.{ℕ, zero, suc, ◌+◌, ◌-◌, ◌≤◌, ◌<◌}
use Rattle.std.specs.Prelude.{◌≡◌, Bool, ◌&&◌, cond, get_or, eqb, leb, ltb}
use Rattle.std.proofs.Math.Path.{refl, ap}
use Rattle.std.proofs.Common.{sym, ◌∙◌, eqb-true, eq-eqb, ne_eqb, leb-true, le-leb, ltb-true, lt-ltb}
use mathlib.Core.List.{List, [], ◌∷◌}
use Rattle.std.proofs.Math.Bool.{true, false}
use Rattle.std.proofs.lemmas.Bool.{false≢true, eqb-false}
use native.Mathlib.Omega.{arith}
use Rattle.std.proofs.Math.ListN.{length}
use Rattle.iff.specs.Bytes.{percent, dash, ampersand, asterisk}
use Rattle.iff.specs.Lists.{kept, total}
use Rattle.iff.specs.Tables.{Row, tag}
use Rattle.iff.specs.Words.{named, train_first, train_last, record_first, record_last}
use Rattle.iff_rules.specs.Legs.{first_stop, last_stop, lies, one, covering, covered, of_kind, ranged, reach_of, ranged_by, in_range, stops_of, legs}
use Rattle.iff_laws.specs.Propositions.{Ranged, RangedOrOne, InRange, Lies, LiesInOne, EveryLeg, LegsMeet}
use Rattle.iff_laws.specs.TruthLaws.{Says, says_eq, says_le, says_lt, says_and, says_itself, says_cond, says_where, says_as, both, and_both, all_with}

-- HOW MANY ENTRIES HAVE IT: none, or just one
module _ {A : Type 0} (d : A) (p : A → Bool) where
  abbrev count : List A → ℕ
  count xs = total (λ x. one (p x)) xs

  abbrev Nowhere : List A → Type 0
  Nowhere xs = (i : ℕ) → i < length xs → p (get_or xs i d) ≡ true → ⊥

  record Once (xs : List A) : Type 0 where
    which : ℕ
    inside : which < length xs
    there : p (get_or xs which d) ≡ true
    no_other : (i : ℕ) → i < length xs → p (get_or xs i d) ≡ true → i ≡ which

  counted_none : (xs : List A) → count xs ≡ 0 → Nowhere xs
  unfolding total
  counted_none [] e i h t = omega arith
  counted_none (x ∷ xs) e zero h t = let n : 1 + count xs ≡ 0 = ap (λ (b : Bool). one b + count xs) (sym t) ∙ e in omega arith
  counted_none (x ∷ xs) e (suc i) h t = counted_none xs (omega arith) i (omega arith) t

  none_counted : (xs : List A) → Nowhere xs → count xs ≡ 0
  unfolding total
  none_counted [] m = refl
  none_counted (x ∷ xs) m = go (p x) refl (none_counted xs (λ i h t. m (suc i) (omega arith) t))
    where
      go : (b : Bool) → p x ≡ b → count xs ≡ 0 → one b + count xs ≡ 0
      go true t e = absurd (m 0 (omega arith) t)
      go false t e = omega arith

  counted_once : (xs : List A) → count xs ≡ 1 → Once xs
  unfolding total
  counted_once [] e = absurd (omega arith)
  counted_once (x ∷ xs) e = go (p x) refl e (counted_once xs)
    where
      here : p x ≡ true → Nowhere xs → Once (x ∷ xs)
      here t m = record { which = 0; inside = omega arith; there = t; no_other = only }
        where
          only : (i : ℕ) → i < length (x ∷ xs) → p (get_or (x ∷ xs) i d) ≡ true → i ≡ 0
          only zero h t = refl
          only (suc i) h t = absurd (m i (omega arith) t)

      later : p x ≡ false → Once xs → Once (x ∷ xs)
      later f o = record { which = suc o.which; inside = omega (arith, o.inside); there = o.there; no_other = only }
        where
          only : (i : ℕ) → i < length (x ∷ xs) → p (get_or (x ∷ xs) i d) ≡ true → i ≡ suc o.which
          only zero h t = absurd (false≢true (sym f ∙ t))
          only (suc i) h t = ap suc (o.no_other i (omega arith) t)

      go : (b : Bool) → p x ≡ b → one b + count xs ≡ 1 → (count xs ≡ 1 → Once xs) → Once (x ∷ xs)
      go true t e rest = here t (counted_none xs (omega arith))
      go false f e rest = later f (rest (omega arith))

  once_counted : (xs : List A) (i : ℕ) → i < length xs → p (get_or xs i d) ≡ true
      → ((j : ℕ) → j < length xs → p (get_or xs j d) ≡ true → j ≡ i) → count xs ≡ 1
  unfolding total
  once_counted [] i h t o = absurd (omega arith)
  once_counted (x ∷ xs) zero h t o =
      let n : count xs ≡ 0 = none_counted xs (λ j k s. let z : suc j ≡ 0 = o (suc j) (omega arith) s in omega arith) in
      ap (λ (b : Bool). one b + count xs) t ∙ omega arith
  once_counted (x ∷ xs) (suc i) h t o =
      go (p x) refl (once_counted xs i (omega arith) t (λ j k s. let z : suc j ≡ suc i = o (suc j) (omega arith) s in omega arith))
    where
      go : (b : Bool) → p x ≡ b → count xs ≡ 1 → one b + count xs ≡ 1
      go true s e = let z : 0 ≡ suc i = o 0 (omega arith) s in absurd (omega arith)
      go false s e = omega arith

-- of those kept
total_kept : {A : Type 0} (p q : A → Bool) (xs : List A) → total (λ x. one (p x)) (kept q xs) ≡ total (λ x. one (q x && p x)) xs
unfolding total kept
total_kept p q [] = refl
total_kept p q (x ∷ xs) = go (q x) (total_kept p q xs)
  where
    go : (b : Bool) → total (λ x. one (p x)) (kept q xs) ≡ total (λ x. one (q x && p x)) xs
        → total (λ x. one (p x)) (cond b (x ∷ kept q xs) (kept q xs)) ≡ one (b && p x) + total (λ x. one (q x && p x)) xs
    go true e = ap (λ (n : ℕ). one (p x) + n) e
    go false e = omega arith

-- the legs 1 to m
covered_each : (m : ℕ) (rs : List Row) → covered m rs ≡ true → (k : ℕ) → 1 ≤ k → k ≤ m → eqb (covering k rs) 1 ≡ true
unfolding covered
covered_each zero rs e k l h = absurd (omega arith)
covered_each (suc m) rs e k l h =
    let z = both (eqb (covering (suc m) rs) 1) (covered m rs) e in
    go (eqb k (suc m)) refl z.0 (covered_each m rs z.1 k l)
  where
    go : (b : Bool) → eqb k (suc m) ≡ b → eqb (covering (suc m) rs) 1 ≡ true → (k ≤ m → eqb (covering k rs) 1 ≡ true) → eqb (covering k rs) 1 ≡ true
    go true q here rest = ap (λ (n : ℕ). eqb (covering n rs) 1) (eqb-true _ _ q) ∙ here
    go false q here rest = let n : k ≡ suc m → ⊥ = eqb-false _ _ q in rest (omega arith)

each_covered : (m : ℕ) (rs : List Row) → ((k : ℕ) → 1 ≤ k → k ≤ m → eqb (covering k rs) 1 ≡ true) → covered m rs ≡ true
unfolding covered
each_covered zero rs f = refl
each_covered (suc m) rs f = and_both (f (suc m) (omega arith) (omega arith)) (each_covered m rs (λ k l h. f k l (omega arith)))

-- A KIND OF RECORD, and where it keeps first and last
module _ (kind : ℕ) (first last : Row → ℕ) (kept_there : (r : Row) → tag r ≡ kind → (first_stop r ≡ first r) × (last_stop r ≡ last r)) where
  lies_exactly : (k : ℕ) (r : Row) → Says (eqb (tag r) kind && lies k r) (Lies kind first last k r)
  lies_exactly k r = (there, back)
    where
      there : (eqb (tag r) kind && lies k r) ≡ true → Lies kind first last k r
      there e =
          let z = both (eqb (tag r) kind) (lies k r) e in
          let y = both (leb (first_stop r) k) (ltb k (last_stop r)) z.1 in
          let t = eqb-true _ _ z.0 in
          let w = kept_there r t in
          record {
            of_kind_lem = t;
            not_before = omega (arith, leb-true (first_stop r) k y.0, w.0);
            not_after = omega (arith, ltb-true k (last_stop r) y.1, w.1);
          }

      back : Lies kind first last k r → (eqb (tag r) kind && lies k r) ≡ true
      back m =
          let w = kept_there r m.of_kind_lem in
          and_both (eq-eqb _ _ m.of_kind_lem)
          (and_both (le-leb (first_stop r) k (omega (arith, m.not_before, w.0))) (lt-ltb k (last_stop r) (omega (arith, m.not_after, w.1))))

  one_exactly : (k : ℕ) (rs : List Row) → Says (eqb (covering k (of_kind kind rs)) 1) (LiesInOne kind first last k rs)
  one_exactly k rs = (there, back)
    where
      there : eqb (covering k (of_kind kind rs)) 1 ≡ true → LiesInOne kind first last k rs
      there e =
          let o = counted_once [] (λ r. eqb (tag r) kind && lies k r) rs (sym (total_kept (lies k) (λ r. eqb (tag r) kind) rs) ∙ eqb-true _ _ e) in
          record {
            which = o.which;
            inside = o.inside;
            lies = (lies_exactly k _).0 o.there;
            no_other = λ i h m. o.no_other i h ((lies_exactly k _).1 m);
          }

      back : LiesInOne kind first last k rs → eqb (covering k (of_kind kind rs)) 1 ≡ true
      back m =
          eq-eqb _ _
          (total_kept (lies k) (λ r. eqb (tag r) kind) rs
          ∙ once_counted [] (λ r. eqb (tag r) kind && lies k r) rs m.which m.inside ((lies_exactly k _).1 m.lies)
          (λ j h t. m.no_other j h ((lies_exactly k _).0 t)))

  every_leg_exactly : (rs : List Row) → Says (covered (stops_of rs - 1) (of_kind kind rs)) (EveryLeg kind first last rs)
  every_leg_exactly rs = (
    λ e k l h. (one_exactly k rs).0 (covered_each (stops_of rs - 1) (of_kind kind rs) e k l (omega arith)),
    λ m. each_covered (stops_of rs - 1) (of_kind kind rs) (λ k l h. (one_exactly k rs).1 (m k l (omega arith))),
  )

-- where `%`, and where `-`, `&` and `*`, keep first and last
train_keeps : (r : Row) → tag r ≡ percent → (first_stop r ≡ train_first r) × (last_stop r ≡ train_last r)
train_keeps r e = (rw e, rw e)

record_keeps : (kind : ℕ) → (kind ≡ percent → ⊥) → (r : Row) → tag r ≡ kind → (first_stop r ≡ record_first r) × (last_stop r ≡ record_last r)
record_keeps kind n r e =
    let q : eqb (tag r) percent ≡ false = ne_eqb _ _ (λ t. n (sym e ∙ t)) in
    (rw q, rw q)

-- RANGES
ranged_exactly : (n : ℕ) (r : Row) (first last : ℕ) → (first_stop r ≡ first) × (last_stop r ≡ last) → Says (ranged n r) (Ranged n first last)
ranged_exactly n r first last w =
    says_as (says_and (says_le 1 (first_stop r)) (says_and (says_lt (first_stop r) (last_stop r)) (says_le (last_stop r) n)))
    (λ z. record { from_one = omega (arith, z.0, w.0); rises = omega (arith, z.1.0, w.0, w.1); to_end = omega (arith, z.1.1, w.1) })
    (λ m. (omega (arith, m.from_one, w.0), (omega (arith, m.rises, w.0, w.1), omega (arith, m.to_end, w.1))))

ranged_or_one_exactly : (n : ℕ) (r : Row) (first last : ℕ) → (first_stop r ≡ first) × (last_stop r ≡ last)
    → Says (ranged_by (reach_of (named r)) n r) (RangedOrOne n first last)
ranged_or_one_exactly n r first last w =
    says_as (says_and (says_le 1 (first_stop r)) (says_and (says_le (first_stop r) (last_stop r)) (says_le (last_stop r) n)))
    (λ z. record { from_one = omega (arith, z.0, w.0); in_turn_lem = omega (arith, z.1.0, w.0, w.1); to_end = omega (arith, z.1.1, w.1) })
    (λ m. (omega (arith, m.from_one, w.0), (omega (arith, m.in_turn_lem, w.0, w.1), omega (arith, m.to_end, w.1))))

module _ (n : ℕ) (r : Row) where
  train_ranged : tag r ≡ percent → Says (ranged n r) (Ranged n (train_first r) (train_last r))
  train_ranged e = ranged_exactly n r (train_first r) (train_last r) (train_keeps r e)

  record_ranged : (kind : ℕ) → (kind ≡ percent → ⊥) → tag r ≡ kind → Says (ranged n r) (Ranged n (record_first r) (record_last r))
  record_ranged kind k e = ranged_exactly n r (record_first r) (record_last r) (record_keeps kind k r e)

  attribute_ranged : tag r ≡ asterisk → Says (ranged_by (reach_of (named r)) n r) (RangedOrOne n (record_first r) (record_last r))
  attribute_ranged e = ranged_or_one_exactly n r (record_first r) (record_last r) (record_keeps asterisk (λ t. omega arith) r e)

  in_range_exactly : Says (in_range reach_of n r) (InRange n r)
  unfolding in_range
  in_range_exactly =
      says_as
      (says_cond (says_eq (tag r) percent) says_itself
      (says_cond (says_eq (tag r) dash) says_itself
      (says_cond (says_eq (tag r) ampersand) says_itself
      (says_where (says_eq (tag r) asterisk) says_itself))))
      (λ z.
      record {
        train = λ e. (train_ranged e).0 (z.0 e);
        validity = λ e. (record_ranged dash (λ t. omega arith) e).0 ((z.1 (λ h. omega arith)).0 e);
        transport = λ e. (record_ranged ampersand (λ t. omega arith) e).0 (((z.1 (λ h. omega arith)).1 (λ h. omega arith)).0 e);
        attribute = λ e. (attribute_ranged e).0 (((z.1 (λ h. omega arith)).1 (λ h. omega arith)).1 (λ h. omega arith) e);
      })
      (λ m. (
        λ e. (train_ranged e).1 (m.train e),
        λ a. (
          λ e. (record_ranged dash (λ t. omega arith) e).1 (m.validity e),
          λ b. (λ e. (record_ranged ampersand (λ t. omega arith) e).1 (m.transport e), λ c e. (attribute_ranged e).1 (m.attribute e)),
        ),
      ))

pub legs_exactly : (rs : List Row) → Says (legs reach_of rs) (LegsMeet rs)
unfolding legs
legs_exactly rs =
    says_as
    (says_and (all_with [] _ (in_range_exactly (stops_of rs)) rs)
    (says_and (every_leg_exactly percent train_first train_last train_keeps rs)
    (says_and (every_leg_exactly dash record_first record_last (record_keeps dash (λ t. omega arith)) rs)
    (every_leg_exactly ampersand record_first record_last (record_keeps ampersand (λ t. omega arith)) rs))))
    (λ z. record { ranges = z.0; trains = z.1.0; validities = z.1.1.0; transports = z.1.1.1 })
    (λ m. (m.ranges, (m.trains, (m.validities, m.transports))))
