-- Laws of a test of all bytes of a list, and of all pairs of two lists, whatever the test: pictures, figures, equal bytes, blanks and digits are of these kinds. Assumes nothing.
use Prim.Native.Nat.{ℕ, zero, suc, ◌+◌, ◌-◌, ◌≤◌, ◌<◌}
use mathlib.Core.Path.{◌≡◌, refl, ap, sym, ◌∙◌}
use mathlib.Core.List.{List, [], ◌∷◌, reverse, reverse_aux}
use mathlib.Core.Bool.{Bool, true, false, ◌&&◌, and-true, and-false, false≢true}
use native.Mathlib.Omega.{arith}
use native.Mathlib.Numerals.{add-one}
use lib.Dec.{eqb}
use lib.ListN.{length, get_or, take, drop, replicate, drop_of_length-le}
use lib.Seq.{drop-cons}
use borrow.Author.Tests.{eq-eqb, eqb-true}
use Rattle.std.specs.List.{list_all, zip}
use Rattle.std.specs.Cmp.Lexicographic.{pointwise}
use Rattle.iff.specs.Bytes.{digit, zero_or_one}
use Rattle.iff.specs.Lists.{all, all2, same}
use Rattle.iff.specs.Columns.{figure, figures}

-- both halves of an `&&` that holds
pub and_left : (x y : Bool) → (x && y) ≡ true → x ≡ true
and_left true y q = refl
and_left false y q = absurd (false≢true q)

pub and_right : (x y : Bool) → (x && y) ≡ true → y ≡ true
and_right true y q = q
and_right false y q = absurd (false≢true q)

-- ONE LIST
-- std's word for the same test
pub all_is : {A : Type 0} (p : A → Bool) (s : List A) → list_all p s ≡ all p s
unfolding all
all_is p [] = refl
all_is p (b ∷ s) = rw (all_is p s)

pub all_at : (p : ℕ → Bool) (s : List ℕ) → all p s ≡ true → (i : ℕ) → i < length s → p (get_or s i 0) ≡ true
unfolding all
all_at p [] e i h = absurd (omega arith)
all_at p (b ∷ s) e zero h = and_left (p b) _ e
all_at p (b ∷ s) e (suc i) h = all_at p s (and_right (p b) _ e) i (omega arith)

-- of parts
pub all_front : (p : ℕ → Bool) (n : ℕ) (s : List ℕ) → all p s ≡ true → all p (take n s) ≡ true
unfolding all
all_front p zero s e = refl
all_front p (suc n) [] e = refl
all_front p (suc n) (b ∷ s) e = rw (and_left (p b) _ e, all_front p n s (and_right (p b) _ e))

pub all_rest : (p : ℕ → Bool) (n : ℕ) (s : List ℕ) → all p s ≡ true → all p (drop n s) ≡ true
unfolding all
all_rest p zero s e = e
all_rest p (suc n) [] e = refl
all_rest p (suc n) (b ∷ s) e = all_rest p n s (and_right (p b) _ e)

-- of the same bytes the other way round
turned : (p : ℕ → Bool) (s r : List ℕ) → all p (reverse_aux s r) ≡ (all p s && all p r)
unfolding all
turned p [] r = refl
turned p (b ∷ s) r = turned p s (b ∷ r) ∙ swap (p b) (all p s) (all p r)
  where
    swap : (x y z : Bool) → (y && (x && z)) ≡ ((x && y) && z)
    swap true y z = refl
    swap false y z = and-false y

pub all_reverse : (p : ℕ → Bool) (s : List ℕ) → all p (reverse s) ≡ all p s
unfolding all
all_reverse p s = turned p s [] ∙ and-true (all p s)

-- a loop that stands at i: what is left is the whole
module _ (p : ℕ → Bool) (s : List ℕ) (i : ℕ) where
  abbrev pub Held : Type 0
  Held = (i ≤ length s) × (all p s ≡ all p (drop i s))

  holds_at : i < length s → all p (drop i s) ≡ (p (get_or s i 0) && all p (drop (i + 1) s))
  unfolding all
  holds_at h = rw (add-one, drop-cons s i 0 h)

  pub breaks : i < length s → p (get_or s i 0) ≡ false → Held → false ≡ all p s
  breaks h e l = sym (l.1 ∙ holds_at h ∙ rw e)

  pub held_all : length s ≤ i → Held → true ≡ all p s
  unfolding all
  held_all h l = sym (l.1 ∙ rw (drop_of_length-le s h))

pub holds_on : (p : ℕ → Bool) (s : List ℕ) (i : ℕ) → i < length s → p (get_or s i 0) ≡ true → Held p s i → Held p s (i + 1)
holds_on p s i h e l = (omega arith, l.1 ∙ holds_at p s i h ∙ rw e)

-- TWO LISTS
-- std's word for the same test
pub all2_is : (f : ℕ → ℕ → Bool) (s t : List ℕ) → pointwise f s t ≡ all2 f s t
unfolding all2
all2_is f [] [] = refl
all2_is f [] (p ∷ t) = refl
all2_is f (b ∷ s) [] = refl
all2_is f (b ∷ s) (p ∷ t) = rw (all2_is f s t)

-- and of the pairs of two lists that are as long
pub all_pairs : (f : ℕ → ℕ → Bool) (s t : List ℕ) → length s ≡ length t → list_all (λ (p : ℕ × ℕ). f p.0 p.1) (zip s t) ≡ all2 f s t
unfolding all2
all_pairs f [] [] e = refl
all_pairs f [] (p ∷ t) e = absurd (omega arith)
all_pairs f (b ∷ s) [] e = absurd (omega arith)
all_pairs f (b ∷ s) (p ∷ t) e = rw (all_pairs f s t (omega arith))

module _ (f : ℕ → ℕ → Bool) where
  -- lists of two lengths do not pass
  pub unequal : (s t : List ℕ) → (length s ≡ length t → ⊥) → all2 f s t ≡ false
  unfolding all2
  unequal [] [] h = absurd (h refl)
  unequal [] (p ∷ t) h = refl
  unequal (b ∷ s) [] h = refl
  unequal (b ∷ s) (p ∷ t) h = rw (unequal s t (λ e. h (ap suc e)), and-false)

  -- lists that pass are as long
  pub same_length : (s t : List ℕ) → all2 f s t ≡ true → length s ≡ length t
  unfolding all2
  same_length [] [] e = refl
  same_length [] (p ∷ t) e = absurd (false≢true e)
  same_length (b ∷ s) [] e = absurd (false≢true e)
  same_length (b ∷ s) (p ∷ t) e = ap suc (same_length s t (and_right (f b p) _ e))

  -- and so do their parts
  pub fronts_pass : (n : ℕ) (s t : List ℕ) → all2 f s t ≡ true → all2 f (take n s) (take n t) ≡ true
  unfolding all2
  fronts_pass zero s t e = refl
  fronts_pass (suc n) [] [] e = refl
  fronts_pass (suc n) [] (p ∷ t) e = absurd (false≢true e)
  fronts_pass (suc n) (b ∷ s) [] e = absurd (false≢true e)
  fronts_pass (suc n) (b ∷ s) (p ∷ t) e = rw (and_left (f b p) _ e, fronts_pass n s t (and_right (f b p) _ e))

  pub rests_pass : (n : ℕ) (s t : List ℕ) → all2 f s t ≡ true → all2 f (drop n s) (drop n t) ≡ true
  unfolding all2
  rests_pass zero s t e = e
  rests_pass (suc n) [] [] e = refl
  rests_pass (suc n) [] (p ∷ t) e = absurd (false≢true e)
  rests_pass (suc n) (b ∷ s) [] e = absurd (false≢true e)
  rests_pass (suc n) (b ∷ s) (p ∷ t) e = rests_pass n s t (and_right (f b p) _ e)

  -- against one mark all the way, the test is one of bytes
  pub against_one : (p n : ℕ) (s : List ℕ) → all2 f s (replicate n p) ≡ true → all (λ b. f b p) s ≡ true
  unfolding all2 all
  against_one p zero [] e = refl
  against_one p zero (b ∷ s) e = absurd (false≢true e)
  against_one p (suc n) [] e = absurd (false≢true e)
  against_one p (suc n) (b ∷ s) e = rw (and_left (f b p) _ e, against_one p n s (and_right (f b p) _ e))

-- a loop that has `left` pairs left to test: what is left is the whole
module _ (f : ℕ → ℕ → Bool) (s t : List ℕ) (left : ℕ) where
  abbrev pub Passed : Type 0
  Passed = (length s ≡ length t) × (left ≤ length s) × (all2 f s t ≡ all2 f (drop (length s - left) s) (drop (length s - left) t))

  here : 0 < left → Passed
      → all2 f s t
      ≡ (f (get_or s (length s - left) 0) (get_or t (length s - left) 0) && all2 f (drop (suc (length s - left)) s) (drop (suc (length s - left)) t))
  unfolding all2
  here h p =
      let i : length s - left < length s = omega arith in
      let k : length s - left < length t = omega arith in
      p.2 ∙ rw (drop-cons s (length s - left) 0 i, drop-cons t (length s - left) 0 k)

  pub fails : 0 < left → f (get_or s (length s - left) 0) (get_or t (length s - left) 0) ≡ false → Passed → false ≡ all2 f s t
  fails h e p = sym (here h p ∙ rw e)

  pub ended : left ≤ 0 → Passed → true ≡ all2 f s t
  unfolding all2
  ended h p =
      let i : length s ≤ length s - left = omega arith in
      let k : length t ≤ length s - left = omega arith in
      sym (p.2 ∙ rw (drop_of_length-le s i, drop_of_length-le t k))

pub passes : (f : ℕ → ℕ → Bool) (s t : List ℕ) (left : ℕ) → 0 < left → f (get_or s (length s - left) 0) (get_or t (length s - left) 0) ≡ true
    → Passed f s t left → Passed f s t (left - 1)
passes f s t left h e p =
    let k : length s - (left - 1) ≡ suc (length s - left) = omega arith in
    (p.0, omega arith, rw k (here f s t left h p ∙ rw e))

pub begins : (f : ℕ → ℕ → Bool) (s t : List ℕ) → length s ≡ length t → Passed f s t (length s)
begins f s t e =
    let k : length s - length s ≡ 0 = omega arith in
    (e, omega arith, rw k refl)

-- `same` is equality
pub same_is : (s t : List ℕ) → same s t ≡ true → s ≡ t
unfolding all2
same_is [] [] e = refl
same_is [] (p ∷ t) e = absurd (false≢true e)
same_is (b ∷ s) [] e = absurd (false≢true e)
same_is (b ∷ s) (p ∷ t) e =
    let k : b ≡ p = eqb-true b p (and_left (eqb b p) _ e) in
    rw (k, same_is s t (and_right (eqb b p) _ e))

pub is_same_lem : (s : List ℕ) → same s s ≡ true
unfolding all2
is_same_lem [] = refl
is_same_lem (b ∷ s) = rw (eq-eqb b b refl, is_same_lem s)

-- the figures of a number's columns are digits, those of a vector's are marks
pub digits_of : (n : ℕ) (s : List ℕ) → figures s (replicate n 110) ≡ true → all digit s ≡ true
unfolding figure
digits_of n s e = against_one figure 110 n s e

pub marks_of : (n : ℕ) (s : List ℕ) → figures s (replicate n 109) ≡ true → all zero_or_one s ≡ true
unfolding figure
marks_of n s e = against_one figure 109 n s e
