-- Laws of the ends of lines: there are as many lines as ends, and one more where something stands behind the last. Assumes nothing.
use Prim.Native.Nat.{ℕ, zero, suc, ◌+◌, ◌-◌, ◌≤◌, ◌<◌}
use mathlib.Core.Path.{◌≡◌, refl, ap, sym, ◌∙◌}
use mathlib.Core.List.{List, [], ◌∷◌}
use mathlib.Core.Bool.{Bool, true, false, cond, and-false}
use native.Mathlib.Nat.{add-zero}
use native.Mathlib.Numerals.{add-one}
use native.Mathlib.Omega.{arith}
use lib.Dec.{eqb}
use lib.ListN.{length, get_or, drop, drop_of_length-le}
use lib.Seq.{drop-cons, get_or-drop}
use borrow.Author.Tests.{eqb-true, ne_eqb}
use Rattle.iff.specs.Bytes.{cr, lf}
use Rattle.iff.specs.Lines.{Line, lines, crlf, before}
use Rattle.text.proofs.LineLaws.{lines_nil, lines_two}
use Rattle.text.proofs.PictureLaws.{and_right}
use Rattle.line_counts.specs.Ends.{one, ends, unended}

-- THE DEFINITIONS' EQUATIONS
ends_cons : (b : ℕ) (s : List ℕ) → ends (b ∷ s) ≡ one (crlf b (get_or s 0 0)) + ends s
unfolding ends
ends_cons b s = refl

-- LF ends nothing by itself
after_end : (b c : ℕ) (s : List ℕ) → crlf b c ≡ true → ends (c ∷ s) ≡ ends s
after_end b c s e =
    let q : c ≡ lf = eqb-true c lf (and_right (eqb b cr) _ e) in
    let p : ends (c ∷ s) ≡ 0 + ends s = ends_cons c s ∙ ap (λ (x : ℕ). one (crlf x (get_or s 0 0)) + ends s) q in
    omega arith

-- a byte put before some lines makes none more
no_more : (b : ℕ) (ls : List Line) → 0 < length ls → length (before b ls) ≡ length ls
unfolding before
no_more b [] h = absurd (omega arith)
no_more b (l ∷ ls) h = refl

-- two ends do not overlap, so what is left behind one is what is left of the whole
unended_behind : (b c : ℕ) (s : List ℕ) → crlf b c ≡ true → unended (b ∷ c ∷ s) ≡ unended s
unfolding unended
unended_behind b c [] e = rw e
unended_behind b c (d ∷ []) e =
    let q : c ≡ lf = eqb-true c lf (and_right (eqb b cr) _ e) in
    rw q
unended_behind b c (d ∷ f ∷ s) e = refl

unended_before : (b c : ℕ) (s : List ℕ) → crlf b c ≡ false → unended (b ∷ c ∷ s) ≡ unended (c ∷ s)
unfolding unended
unended_before b c [] e = rw e
unended_before b c (d ∷ s) e = refl

one_byte : (b : ℕ) → ends (b ∷ []) ≡ 0
unfolding ends
one_byte b = rw and-false

some_lines : (b : ℕ) (s : List ℕ) → length (lines (b ∷ s)) ≡ ends (b ∷ s) + unended (b ∷ s) → 0 < ends (b ∷ s) + unended (b ∷ s) → 0 < length (lines (b ∷ s))
some_lines b s e h = omega arith

mutual_some : (b : ℕ) (s : List ℕ) → 0 < ends (b ∷ s) + unended (b ∷ s)
unfolding unended
mutual_some b [] = omega arith
mutual_some b (c ∷ []) = go (crlf b c) refl
  where
    go : (x : Bool) → crlf b c ≡ x → 0 < ends (b ∷ c ∷ []) + cond (crlf b c) 0 1
    go true e = rw (ends_cons b (c ∷ []), e) (omega arith)
    go false e = rw e (omega arith)
mutual_some b (c ∷ d ∷ s) = omega (arith, mutual_some c (d ∷ s), ends_cons b (c ∷ d ∷ s))

pub lines_counted : (s : List ℕ) → length (lines s) ≡ ends s + unended s
unfolding lines before ends unended
lines_counted [] = refl
lines_counted (b ∷ []) = rw and-false
lines_counted (b ∷ c ∷ s) = go (crlf b c) refl (lines_counted s) (lines_counted (c ∷ s))
  where
    go : (x : Bool) → crlf b c ≡ x → length (lines s) ≡ ends s + unended s → length (lines (c ∷ s)) ≡ ends (c ∷ s) + unended (c ∷ s)
        → length (lines (b ∷ c ∷ s)) ≡ ends (b ∷ c ∷ s) + unended (b ∷ c ∷ s)
    go true e i j =
        let l : length (lines (b ∷ c ∷ s)) ≡ suc (length (lines s)) = ap length (lines_two b c s) ∙ rw e in
        let m : ends (b ∷ c ∷ s) ≡ 1 + ends (c ∷ s) = ends_cons b (c ∷ s) ∙ rw e in
        omega (arith, after_end b c s e, unended_behind b c s e)
    go false e i j =
        let l : length (lines (b ∷ c ∷ s)) ≡ length (before b (lines (c ∷ s))) = ap length (lines_two b c s) ∙ rw e in
        let n = no_more b (lines (c ∷ s)) (some_lines c s j (mutual_some c s)) in
        let m : ends (b ∷ c ∷ s) ≡ 0 + ends (c ∷ s) = ends_cons b (c ∷ s) ∙ rw e in
        omega (arith, unended_before b c s e)

-- A RUN that stands at i, from `from` on
pub record Running (t : List ℕ) (from to i n : ℕ) : Type 0 where
  pub low : from ≤ i
  pub high : i ≤ to
  pub few : n ≤ i - from
  pub left : n + ends (drop i t) ≡ ends (drop from t)

pub runs_on_lem : (t : List ℕ) (from to i n m : ℕ) → Running t from to i n → i < to → to < length t
    → m ≡ one (crlf (get_or t i 0) (get_or t (i + 1) 0)) → m ≤ 1 → Running t from to (i + 1) (n + m)
runs_on_lem t from to i n m r h k e few =
    let c : drop i t ≡ get_or t i 0 ∷ drop (suc i) t = drop-cons t i 0 (omega arith) in
    let g : get_or (drop (suc i) t) 0 0 ≡ get_or t (i + 1) 0 = rw (get_or-drop, add-zero, add-one) in
    let d : ends (drop i t) ≡ m + ends (drop (i + 1) t) =
    ap ends c ∙ ends_cons (get_or t i 0) (drop (suc i) t) ∙ ap (λ (x : ℕ). one (crlf (get_or t i 0) x) + ends (drop (suc i) t)) g
    ∙ rw (e, add-one) in
    record { low = omega (arith, r); high = omega arith; few = omega (arith, r); left = omega (arith, r) }

pub runs_start : (t : List ℕ) (from to : ℕ) → from ≤ to → Running t from to from 0
runs_start t from to h = record { low = omega arith; high = h; few = omega arith; left = omega arith }

pub runs_end : (t : List ℕ) (from to i n : ℕ) → Running t from to i n → to ≤ i → n + ends (drop to t) ≡ ends (drop from t)
runs_end t from to i n r h =
    let e : i ≡ to = omega (arith, r) in
    rw e at r.left

-- RUNS one after the other, up to i
pub record Counting (t : List ℕ) (last i n : ℕ) : Type 0 where
  pub high : i ≤ last
  pub few : n ≤ i
  pub left : n + ends (drop i t) ≡ ends t

-- the last byte ends nothing
pub last_none : (t : List ℕ) (i : ℕ) → i + 1 ≡ length t → ends (drop i t) ≡ 0
last_none t i h =
    let n : drop (suc i) t ≡ [] = drop_of_length-le t {i = suc i} (omega arith) in
    ap ends (drop-cons t i 0 (omega arith)) ∙ rw n (one_byte (get_or t i 0))

-- THE REMAINDER, by the last two bytes
pub unended_one : (t : List ℕ) → 1 ≡ length t → 1 ≡ unended t
unfolding unended
unended_one [] h = absurd (omega arith)
unended_one (b ∷ []) h = refl
unended_one (b ∷ c ∷ t) h = absurd (omega arith)

next_of : (i : ℕ) → suc (i + 1) ≡ suc i + 1
next_of i = omega arith

pub unended_two : (t : List ℕ) (i : ℕ) → i + 2 ≡ length t → unended t ≡ cond (crlf (get_or t i 0) (get_or t (i + 1) 0)) 0 1
unfolding unended
unended_two [] i h = absurd (omega arith)
unended_two (b ∷ []) i h = absurd (omega arith)
unended_two (b ∷ c ∷ []) zero h = refl
unended_two (b ∷ c ∷ []) (suc i) h = absurd (omega arith)
unended_two (b ∷ c ∷ d ∷ s) zero h = absurd (omega arith)
unended_two (b ∷ c ∷ d ∷ s) (suc i) h =
    unended_two (c ∷ d ∷ s) i (omega arith)
    ∙ ap (λ (j : ℕ). cond (crlf (get_or (c ∷ d ∷ s) i 0) (get_or (b ∷ c ∷ d ∷ s) j 0)) 0 1) (next_of i)

pub above : (m : ℕ) → (m ≡ 0 → ⊥) → 0 < m
above m h = omega arith

-- no LF, or no CR before it
pub no_lf : (t : List ℕ) (last : ℕ) → last + 1 ≡ length t → 0 < last → (get_or t last 0 ≡ lf → ⊥) → 1 ≡ unended t
no_lf t last h s z =
    let i : last - 1 + 1 ≡ last = omega arith in
    sym (unended_two t (last - 1) (omega arith) ∙ rw (i, ne_eqb _ _ z, and-false))

pub no_cr : (t : List ℕ) (last : ℕ) → last + 1 ≡ length t → 0 < last → (get_or t (last - 1) 0 ≡ cr → ⊥) → 1 ≡ unended t
no_cr t last h s z =
    let i : last - 1 + 1 ≡ last = omega arith in
    sym (unended_two t (last - 1) (omega arith) ∙ rw (i, ne_eqb _ _ z))

pub both_there : (t : List ℕ) (last : ℕ) → last + 1 ≡ length t → 0 < last → get_or t last 0 ≡ lf → get_or t (last - 1) 0 ≡ cr → 0 ≡ unended t
both_there t last h s y z =
    let i : last - 1 + 1 ≡ last = omega arith in
    sym (unended_two t (last - 1) (omega arith) ∙ rw (i, y, z))

-- ALL, from runs that came to the last byte
pub counted_all : (t : List ℕ) (last n m r : ℕ) → last + 1 ≡ length t → (i : ℕ) → n + ends (drop i t) ≡ ends t
    → m + ends (drop last t) ≡ ends (drop i t) → r ≡ unended t → n + m + r ≡ length (lines t)
counted_all t last n m r h i e f g = omega (arith, lines_counted t, last_none t last h)

pub none_counted : (t : List ℕ) → length t ≡ 0 → 0 ≡ length (lines t)
none_counted [] h = sym (ap length lines_nil)
none_counted (b ∷ t) h = absurd (omega arith)
