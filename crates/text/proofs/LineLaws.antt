-- Laws of lines: where the first line of a text ends, and what stands behind it. Assumes nothing.
use Rattle.std.specs.Prelude.{None, Some}
use Prim.Native.Nat.{ℕ, suc, ◌+◌, ◌-◌, ◌≤◌, ◌<◌, min}
use mathlib.Core.Path.{◌≡◌, refl, ap, sym, ◌∙◌}
use mathlib.Core.List.{List, [], ◌∷◌}
use mathlib.Core.Bool.{Bool, true, false, cond, and-false, false≢true}
use native.Mathlib.Nat.{add-zero}
use native.Mathlib.Omega.{arith}
use native.Mathlib.Numerals.{add-one, add-two}
use lib.Dec.{leb-suc-suc, leb, eqb, ltb}
use lib.ListN.{length, get_or, take, drop, length-drop, drop_of_length-le}
use lib.Seq.{drop-cons, get_or-drop, drop-drop, take_all, take-nil}
use borrow.Author.Tests.{lt-ltb, le-ltb, ltb-true, ltb-false, leb-true, leb-false}
use Rattle.iff.specs.Bytes.{cr}
use Rattle.iff.specs.Lines.{Line, crlf, before, lines, width, first_line, eol_at}
use Rattle.text.specs.Spans.{LineAt}

-- the definitions' equations, to rewrite with while they stay shut
pub lines_nil : lines [] ≡ []
unfolding lines
lines_nil = refl

pub lines_two : (b c : ℕ) (s : List ℕ) → lines (b ∷ c ∷ s) ≡ cond (crlf b c) (record { body = []; ended = true } ∷ lines s) (before b (lines (c ∷ s)))
unfolding lines
lines_two b c s = refl

width_cons : (b : ℕ) (s : List ℕ) → width (b ∷ s) ≡ cond (crlf b (get_or s 0 0)) 0 (suc (width s))
unfolding width
width_cons b s = refl

-- one step of `width`, at a place of the text
pub width_at : (t : List ℕ) (i : ℕ) → i < length t → width (drop i t) ≡ cond (crlf (get_or t i 0) (get_or t (i + 1) 0)) 0 (suc (width (drop (i + 1) t)))
unfolding width
width_at t i h = rw (drop-cons t i 0, get_or-drop, add-one, add-zero)

-- the first line, and the lines after it
abbrev Step : List ℕ → Type 0
Step s = lines s ≡ first_line s ∷ lines (drop (width s + 2) s)

more : (b c : ℕ) (s : List ℕ) (t : Bool) → crlf b c ≡ t → Step (c ∷ s) → Step (b ∷ c ∷ s)
unfolding before
more b c s true e ih = rw (lines_two, width_cons, e, lt-ltb 0 (suc (suc (length s))) (omega arith))
more b c s false e ih = rw (lines_two, width_cons b, e, ih, add-two, add-two) (simp leb-suc-suc)

one : (b : ℕ) → Step (b ∷ [])
unfolding lines width before
one b = rw and-false refl

pub lines_step : (s : List ℕ) → 0 < length s → Step s
lines_step [] h = absurd (omega arith)
lines_step (b ∷ []) h = one b
lines_step (b ∷ c ∷ s) h = more b c s (crlf b c) refl (lines_step (c ∷ s) (omega arith))

-- CR LF is two bytes
pub room : (s : List ℕ) → width s < length s → width s + 2 ≤ length s
room [] h = absurd (omega arith)
room (b ∷ s) h = go (crlf b (get_or s 0 0)) refl (room s)
  where
    two : (b' : ℕ) (l : List ℕ) → crlf b' (get_or l 0 0) ≡ true → 1 ≤ length l
    two b' [] e = absurd (false≢true (sym (and-false (eqb b' cr)) ∙ e))
    two b' (x ∷ l) e = omega arith

    go : (t : Bool) → crlf b (get_or s 0 0) ≡ t → (width s < length s → width s + 2 ≤ length s) → width (b ∷ s) + 2 ≤ length (b ∷ s)
    go true e ih = rw (width_cons, e) (omega (arith, two b s e))
    go false e ih = rw (width_cons, e) (omega (arith, ih (omega (arith, rw (width_cons, e) at h))))

-- a loop that looks for the end from `at` on, at `i`
module _ (t : List ℕ) (at i : ℕ) where
  abbrev pub Looking : Type 0
  Looking = (at ≤ i) × (i ≤ length t) × (at + width (drop at t) ≡ i + width (drop i t))

  pub found : i < length t → crlf (get_or t i 0) (get_or t (i + 1) 0) ≡ true → Looking → Some i ≡ eol_at t at
  found h e l =
      let w : at + width (drop at t) ≡ i = omega (arith, rw e at (width_at t i h)) in
      rw (w, lt-ltb i (length t) h)

  pub not_found : length t ≤ i → Looking → None ≡ eol_at t at
  unfolding width
  not_found h l =
      let w : at + width (drop at t) ≡ length t = omega (arith, ap width (drop_of_length-le t {i = i} h)) in
      rw (w, le-ltb (length t) (length t) (omega arith))

pub looks_on : (t : List ℕ) (at i : ℕ) → i < length t → crlf (get_or t i 0) (get_or t (i + 1) 0) ≡ false → Looking t at i → Looking t at (i + 1)
looks_on t at i h e l = (omega arith, omega arith, omega (arith, rw e at (width_at t i h)))

-- the line from `at` up to e, which CR LF ends, and the one from `at` to the end, which nothing does
abbrev pub whole : List ℕ → ℕ → ℕ → Line
whole t at e = record { body = take (e - at) (drop at t); ended = true }

abbrev pub remainder : List ℕ → ℕ → Line
remainder t at = record { body = drop at t; ended = false }

-- the part `&t[at..]` is the remainder's body
pub rest_part : (t : List ℕ) (at : ℕ) → take (length t - at) (drop at t) ≡ drop at t
rest_part t at = take_all (length t - at) (drop at t) (rw length-drop (omega arith))

-- what it says of a text that the line at `at` ends at e
pub record EndedAt (t : List ℕ) (at e : ℕ) : Type 0 where
  pub low : at ≤ e
  pub high : e + 2 ≤ length t
  pub head : lines (drop at t) ≡ whole t at e ∷ lines (drop (e + 2) t)

module _ (t : List ℕ) (at : ℕ) (h : at < length t) where
  pub after_ended : (e : ℕ) → eol_at t at ≡ Some e → EndedAt t at e
  after_ended e q = go (ltb (at + width (drop at t)) (length t)) refl q
    where
      go : (b : Bool) → ltb (at + width (drop at t)) (length t) ≡ b → cond b (Some (at + width (drop at t))) None ≡ Some e → EndedAt t at e
      go false b q' = absurd (let z : ◌≡◌ {A = ℕ} 0 1 = cc in omega arith)
      go true b q' =
          let w : at + width (drop at t) ≡ e = cc in
          let i : at + width (drop at t) < length t = ltb-true _ _ b in
          let n : length (drop at t) ≡ length t - at = length-drop at t in
          let k : at + (width (drop at t) + 2) ≡ e + 2 = omega arith in
          let m : width (drop at t) ≡ e - at = omega arith in
          let l : e - at < length (drop at t) = omega arith in
          record {
            low = omega arith;
            high = omega (arith, room (drop at t) (omega arith));
            head = lines_step (drop at t) (omega arith) ∙ rw (drop-drop, k, m, lt-ltb _ _ l);
          }

  pub after_unended : eol_at t at ≡ None → lines (drop at t) ≡ remainder t at ∷ []
  after_unended q = go (ltb (at + width (drop at t)) (length t)) refl q
    where
      go : (b : Bool) → ltb (at + width (drop at t)) (length t) ≡ b → cond b (Some (at + width (drop at t))) None ≡ None
          → lines (drop at t) ≡ remainder t at ∷ []
      go true b q' = absurd (let z : ◌≡◌ {A = ℕ} 0 1 = cc in omega arith)
      go false b q' =
          let i : length t ≤ at + width (drop at t) = ltb-false _ _ b in
          let n : length (drop at t) ≡ length t - at = length-drop at t in
          let l : length (drop at t) ≤ width (drop at t) = omega arith in
          lines_step (drop at t) (omega arith)
          ∙ rw (drop_of_length-le (drop at t) {i = width (drop at t) + 2} (omega arith), lines_nil, take_all _ _ l, le-ltb _ _ l)

-- at the end there are no lines
pub lines_end : (t : List ℕ) (at : ℕ) → length t ≤ at → lines (drop at t) ≡ []
lines_end t at h = ap lines (drop_of_length-le t h) ∙ lines_nil

-- the same as one record of facts, for every index into the line
module _ (t : List ℕ) (at : ℕ) (h : at < length t) where
  pub span_ended : (e : ℕ) → eol_at t at ≡ Some e → LineAt t at (record { end = e; ended = true; next = e + 2 })
  span_ended e q =
      let a = after_ended t at h e q in
      record { low = a.low; top = omega arith; more = omega arith; high = a.high; head = a.head }

  pub span_unended : eol_at t at ≡ None → LineAt t at (record { end = length t; ended = false; next = length t })
  span_unended q =
      record {
        low = omega arith;
        top = omega arith;
        more = h;
        high = omega arith;
        head = after_unended t at h q ∙ rw (rest_part t at, lines_end t (length t) (omega arith));
      }

-- a loop that has counted n lines, and stands at `at`
abbrev pub Counted : List ℕ → ℕ → ℕ → Type 0
Counted t n at = (n ≤ at) × (at ≤ length t) × (n + length (lines (drop at t)) ≡ length (lines t))

pub counted_ended : (t : List ℕ) (n at e : ℕ) → at < length t → eol_at t at ≡ Some e → Counted t n at → Counted t (n + 1) (e + 2)
counted_ended t n at e h q i =
    let a = after_ended t at h e q in
    (omega arith, a.high, omega (arith, ap length a.head))

pub counted_unended : (t : List ℕ) (n at : ℕ) → at < length t → eol_at t at ≡ None → Counted t n at → Counted t (n + 1) (length t)
counted_unended t n at h q i =
    (omega arith, omega arith, omega (arith, ap length (after_unended t at h q), ap length (lines_end t (length t) (omega arith))))

pub counted_end : (t : List ℕ) (n at : ℕ) → length t ≤ at → Counted t n at → n ≡ length (lines t)
counted_end t n at h i = omega (arith, ap length (lines_end t at h))

-- SOME COLUMNS OF A LINE, where it is too short for them: none, or those that are left
pub no_columns : (s : List ℕ) (from to : ℕ) → length s ≤ from → [] ≡ take (to - from) (drop from s)
no_columns s from to h = rw (drop_of_length-le s h, take-nil)

pub few_columns : (s : List ℕ) (from to : ℕ) → length s < to → take (length s - from) (drop from s) ≡ take (to - from) (drop from s)
few_columns s from to h =
    rw (take_all (length s - from) (drop from s) (rw length-drop (omega arith)), take_all (to - from) (drop from s) (rw length-drop (omega arith)))

pub columns_there : (s : List ℕ) (from to a b : ℕ) → a ≡ min from (length s) → b ≡ min to (length s) → take (b - a) (drop a s) ≡ take (to - from) (drop from s)
columns_there s from to a b ea eb = go (leb from (length s)) refl (leb to (length s)) refl
  where
    go : (p : Bool) → leb from (length s) ≡ p → (q : Bool) → leb to (length s) ≡ q → take (b - a) (drop a s) ≡ take (to - from) (drop from s)
    go true p true q =
        let i : a ≡ from = omega (arith, leb-true from (length s) p) in
        let j : b ≡ to = omega (arith, leb-true to (length s) q) in
        rw (i, j)
    go true p false q =
        let i : a ≡ from = omega (arith, leb-true from (length s) p) in
        let j : b ≡ length s = omega (arith, leb-false to (length s) q) in
        rw (i, j) (few_columns s from to (leb-false to (length s) q))
    go false p q e =
        let i : length s ≤ a = omega (arith, leb-false from (length s) p) in
        rw (drop_of_length-le s i, take-nil) (no_columns s from to (omega (arith, leb-false from (length s) p)))
