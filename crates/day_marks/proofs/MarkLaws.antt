-- Laws of a word of marks, and of a vector's words. Assumes nothing.
use Prim.Native.Nat.{ℕ, suc, ◌+◌, ◌-◌, ◌/◌, ◌^◌, ◌≤◌, ◌<◌}
use mathlib.Core.Path.{◌≡◌, refl, sym, ◌∙◌}
use mathlib.Core.List.{List}
use mathlib.Core.Bool.{Bool, true, false, ◌&&◌}
use native.Mathlib.Nat.{add-zero, div-lt_iff_lt-mul, le-div_iff_mul-le}
use native.Mathlib.Omega.{arith}
use lib.Dec.{eqb, ltb}
use lib.ListN.{length, get_or, take, drop, length-drop}
use lib.Seq.{get_or-take, get_or-drop, drop-drop, length-take-le}
use borrow.Author.Tests.{lt-ltb, eq-eqb, ne_eqb, le-leb, lt-leb, ltb-true, ltb-false}
use Rattle.std.proofs.lemmas.Nat.{pow_pos}
use Rattle.iff.specs.Values.{word_at, vector_right, vector_width}
use Rattle.day_marks.specs.Marks.{marks_fit}

-- MARKS: a word below a power of two
pub few_days : (word days : ℕ) → days < 64 → eqb (word / 2 ^ days) 0 ≡ marks_fit word days
unfolding marks_fit
few_days word days d = rw (lt-leb 64 days d) (go (ltb word (2 ^ days)) refl)
  where
    go : (t : Bool) → ltb word (2 ^ days) ≡ t → eqb (word / 2 ^ days) 0 ≡ t
    go true e =
        let l : word / 2 ^ days < 1 = (div-lt_iff_lt-mul (pow_pos days)).1 (omega (arith, ltb-true word (2 ^ days) e)) in
        eq-eqb _ _ (omega arith)
    go false e =
        let l : 1 ≤ word / 2 ^ days = (le-div_iff_mul-le (pow_pos days)).1 (omega (arith, ltb-false word (2 ^ days) e)) in
        ne_eqb _ _ (λ z. omega arith)

pub all_days : (word days : ℕ) → word < 2 ^ 64 → 64 ≤ days → true ≡ marks_fit word days
unfolding marks_fit
all_days word days b h = rw (le-leb 64 days h) (sym (lt-ltb word (2 ^ 64) b))

-- THE LOOP OVER A VECTOR'S WORDS: i of them read, and what is left is the whole
pub record Reading (row : List ℕ) (days left i : ℕ) : Type 0 where
  pub few : i ≤ vector_width
  pub whole : vector_right vector_width days (drop 1 row) ≡ vector_right (vector_width - i) left (drop (i + 1) row)

-- the words from the second on, as many as a vector has
word_behind : (row : List ℕ) (i : ℕ) → i < vector_width → get_or (take vector_width (drop 1 row)) i 0 ≡ get_or row (i + 1) 0
word_behind row i h =
    let n : 1 + i ≡ i + 1 = omega arith in
    get_or-take vector_width (drop 1 row) i 0 h ∙ rw n at (get_or-drop 1 row i 0)

pub words_behind : (row : List ℕ) → vector_width < length row → length (take vector_width (drop 1 row)) ≡ vector_width
words_behind row h = length-take-le vector_width (drop 1 row) (rw length-drop (omega arith))

pub read_begin : (row : List ℕ) (days : ℕ) → Reading row days days 0
read_begin row days = record { few = omega arith; whole = refl }

vector_step : (n days : ℕ) (r : List ℕ) → vector_right (suc n) days r ≡ (marks_fit (word_at r 0) days && vector_right n (days - 64) (drop 1 r))
unfolding vector_right marks_fit
vector_step n days r = refl

vector_done : (days : ℕ) (r : List ℕ) → vector_right 0 days r ≡ true
unfolding vector_right
vector_done days r = refl

module _ (row : List ℕ) (days left i : ℕ) (l : Reading row days left i) where
  module _ (h : i < vector_width) where
    marks_step : vector_right (vector_width - i) left (drop (i + 1) row)
        ≡ (marks_fit (get_or row (i + 1) 0) left && vector_right (vector_width - (i + 1)) (left - 64) (drop (i + 1 + 1) row))
    marks_step =
        let n : vector_width - i ≡ suc (vector_width - (i + 1)) = omega arith in
        rw (n, vector_step, get_or-drop, add-zero, drop-drop)

    pub read_fails : marks_fit (get_or (take vector_width (drop 1 row)) i 0) left ≡ false → false ≡ vector_right vector_width days (drop 1 row)
    read_fails e = sym (l.whole ∙ marks_step ∙ rw (rw (word_behind row i h) at e))

    pub read_on : marks_fit (get_or (take vector_width (drop 1 row)) i 0) left ≡ true → (next : ℕ) → next ≡ left - 64 → Reading row days next (i + 1)
    read_on e next q = record { few = omega arith; whole = l.whole ∙ marks_step ∙ rw (rw (word_behind row i h) at e, q) }

  pub read_end : vector_width ≤ i → true ≡ vector_right vector_width days (drop 1 row)
  read_end h =
      let n : vector_width - i ≡ 0 = omega arith in
      sym (l.whole ∙ rw (n, vector_done))
