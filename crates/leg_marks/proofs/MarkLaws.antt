-- Laws of marks: a leg more is marked, and each leg of a block has one mark. Assumes nothing.
use Prim.Native.Nat.{ℕ, zero, suc, ◌+◌, ◌-◌, ◌≤◌, ◌<◌}
use mathlib.Core.Path.{◌≡◌, refl, ap, sym, ◌∙◌}
use mathlib.Core.List.{List}
use mathlib.Core.Bool.{Bool, true, false, ◌&&◌, and-true, and-false}
use native.Mathlib.Omega.{arith}
use lib.Dec.{eqb, leb, ltb}
use lib.ListN.{length, get_or, take, drop, set, replicate, length-set, length-drop}
use lib.Seq.{get_or-drop, get_or-set_same, get_or-set_other, take-suc}
use borrow.Author.Tests.{ne_eqb, eqb-true, eqb-false, le-leb, lt-leb, lt-ltb, le-ltb, ltb-true, ltb-false}
use Rattle.std.specs.List.{list_all}
use Rattle.std.proofs.lemmas.List.Recursion.{and_push}
use Rattle.iff_rules.specs.Legs.{one, covering, covered}
use Rattle.iff.specs.Tables.{Row}
use Rattle.leg_marks.specs.Once.{once_to}
use Rattle.leg_marks.specs.Tally.{Tally}

-- leg k lies from `first` up to `last`, 1 or 0
abbrev pub within : ℕ → ℕ → ℕ → ℕ
within first last k = one (leb first k && ltb k last)

pub within_yes : (first last k : ℕ) → first ≤ k → k < last → within first last k ≡ 1
within_yes first last k a b = rw (le-leb first k a, lt-ltb k last b)

pub within_not : (first last k : ℕ) → last ≤ k → within first last k ≡ 0
within_not first last k h = rw (le-ltb k last h, and-false)

within_next : (first leg k : ℕ) → (k ≡ leg → ⊥) → within first (leg + 1) k ≡ within first leg k
within_next first leg k q = go (ltb k leg) refl
  where
    go : (b : Bool) → ltb k leg ≡ b → within first (leg + 1) k ≡ within first leg k
    go true e =
        let l : k < leg = ltb-true k leg e in
        rw (lt-ltb k leg l, lt-ltb k (leg + 1) (omega arith))
    go false e =
        let l : leg ≤ k = ltb-false k leg e in
        let m : leg + 1 ≤ k = omega arith in
        rw (le-ltb k leg l, le-ltb k (leg + 1) m)

-- a loop that has marked the legs from `first` up to `leg`
module _ (was is : List ℕ) (first last leg : ℕ) where
  abbrev pub Marking : Type 0
  Marking = (length is ≡ length was) × (first ≤ leg) × (leg ≤ last) × ((k : ℕ) → get_or is k 0 ≡ get_or was k 0 + within first leg k)

  -- a leg that is marked already
  pub marked_twice : leg < last → 0 < get_or is leg 0 → Marking → Tally first last (within first last) was is false
  marked_twice h q m =
      record {
        yes = λ e. absurd (let z : ◌≡◌ {A = ℕ} 0 1 = cc in omega arith);
        no = λ e. record {
          leg = leg;
          from = m.1;
          to = h;
          twice = omega (arith, m.3 leg, within_not first leg leg (omega arith), within_yes first last leg m.1 h);
        };
      }

  pub marked_all : last ≤ leg → Marking → Tally first last (within first last) was is true
  marked_all h m =
      let e : leg ≡ last = omega arith in
      record {
        yes = λ _. rw e at m.3;
        no = λ q. absurd (let z : ◌≡◌ {A = ℕ} 0 1 = cc in omega arith);
      }

-- none so far
pub marking_none : (was : List ℕ) (first last : ℕ) → first ≤ last → Marking was was first last first
marking_none was first last h = (refl, omega arith, h, each)
  where
    each : (k : ℕ) → get_or was k 0 ≡ get_or was k 0 + within first first k
    each k = go (ltb k first) refl
      where
        go : (b : Bool) → ltb k first ≡ b → get_or was k 0 ≡ get_or was k 0 + within first first k
        go true e =
            let l : k < first = ltb-true k first e in
            rw (lt-leb first k l) (omega arith)
        go false e =
            let l : first ≤ k = ltb-false k first e in
            omega (arith, within_not first first k l)

-- one more
pub marking_next : (was is : List ℕ) (first last leg : ℕ) → leg < last → leg < length is → get_or is leg 0 ≡ 0
    → Marking was is first last leg → Marking was (set is leg 1) first last (leg + 1)
marking_next was is first last leg h n z m = (length-set is leg 1 ∙ m.0, omega arith, omega arith, each)
  where
    each : (k : ℕ) → get_or (set is leg 1) k 0 ≡ get_or was k 0 + within first (leg + 1) k
    each k = go (eqb k leg) refl
      where
        go : (b : Bool) → eqb k leg ≡ b → get_or (set is leg 1) k 0 ≡ get_or was k 0 + within first (leg + 1) k
        go true e =
            let q : k ≡ leg = eqb-true k leg e in
            let w : within first leg leg ≡ 0 = within_not first leg leg (omega arith) in
            let v : within first (leg + 1) leg ≡ 1 = within_yes first (leg + 1) leg m.1 (omega arith) in
            rw q (omega (arith, get_or-set_same is leg 1 0 n, m.3 leg, w, v))
        go false e =
            let q = eqb-false k leg e in
            omega (arith, get_or-set_other is leg k 1 0 q, m.3 k, within_next first leg k q)

-- ONCE EACH
module _ (count : ℕ → ℕ) where
  -- a leg that is counted twice
  pub once_not : (m k : ℕ) → 0 < k → k ≤ m → 1 < count k → once_to m count ≡ false
  unfolding once_to
  once_not zero k a b q = absurd (omega arith)
  once_not (suc m) k a b q = go (eqb k (suc m)) refl (λ l. once_not m k a l q)
    where
      go : (t : Bool) → eqb k (suc m) ≡ t → (k ≤ m → once_to m count ≡ false) → (eqb (count (suc m)) 1 && once_to m count) ≡ false
      go true e ih =
          let s : k ≡ suc m = eqb-true k (suc m) e in
          let l : 1 < count (suc m) = rw s at q in
          rw (ne_eqb (count (suc m)) 1 (λ z. omega arith))
      go false e ih =
          let s = eqb-false k (suc m) e in
          rw (ih (omega arith), and-false)

-- std's test of the marks of legs 1 to m is the same
swap : (x y : Bool) → (x && y) ≡ (y && x)
swap true y = sym (and-true y)
swap false y = sym (and-false y)

pub once_all : (m : ℕ) (s : List ℕ) → m < length s → list_all (λ k. eqb k 1) (take m (drop 1 s)) ≡ once_to m (λ k. get_or s k 0)
unfolding once_to
once_all zero s h = refl
once_all (suc m) s h =
    let l : m < length (drop 1 s) = rw length-drop (omega arith) in
    let n : 1 + m ≡ suc m = omega arith in
    let g : get_or (drop 1 s) m 0 ≡ get_or s (suc m) 0 = rw n at (get_or-drop 1 s m 0) in
    ap (list_all (λ k. eqb k 1)) (take-suc (drop 1 s) m 0 l)
    ∙ and_push (list_all (λ k. eqb k 1)) (λ k. eqb k 1) refl (λ _ _. refl) (take m (drop 1 s)) (get_or (drop 1 s) m 0)
    ∙ rw (g, once_all m s (omega arith)) (swap _ (eqb (get_or s (suc m) 0) 1))

pub once_same : (f g : ℕ → ℕ) → ((k : ℕ) → f k ≡ g k) → (m : ℕ) → once_to m f ≡ once_to m g
unfolding once_to
once_same f g e zero = refl
once_same f g e (suc m) = rw (e (suc m), once_same f g e m)

pub once_covered : (rs : List Row) (f : ℕ → ℕ) → ((k : ℕ) → f k ≡ covering k rs) → (m : ℕ) → once_to m f ≡ covered m rs
unfolding once_to covered
once_covered rs f e zero = refl
once_covered rs f e (suc m) = rw (e (suc m), once_covered rs f e m)

-- A KIND'S RECORDS, on marks that begin with none
none_yet : (room k : ℕ) → get_or {A = ℕ} (replicate room 0) k 0 ≡ 0
none_yet zero k = refl
none_yet (suc room) zero = refl
none_yet (suc room) (suc k) = none_yet room k

module _ (n room : ℕ) (count : ℕ → ℕ) (is : List ℕ) (r : Bool) (t : Tally 1 n count (replicate room 0) is r) where
  pub twice_not : r ≡ false → false ≡ once_to (n - 1) count
  twice_not e =
      let d = t.no e in
      sym (once_not count (n - 1) d.leg (omega (arith, d.from)) (omega (arith, d.from, d.to)) (omega (arith, d.twice, none_yet room d.leg)))

  pub marks_are : (legs : ℕ) → legs ≡ n - 1 → r ≡ true → once_to legs (λ k. get_or is k 0) ≡ once_to (n - 1) count
  marks_are legs l e = rw l (once_same (λ k. get_or is k 0) count (λ k. omega (arith, t.yes e k, none_yet room k)) (n - 1))
