-- A text cut where a line begins: the lines before the cut and those behind it are the lines of the whole. Assumes nothing.
use Prim.Native.Nat.{ℕ, suc, ◌+◌, ◌-◌, ◌≤◌, ◌<◌}
use mathlib.Core.Path.{◌≡◌, refl, ap, sym, ◌∙◌}
use mathlib.Core.List.{List, [], ◌∷◌, ◌++◌, append_assoc}
use mathlib.Core.Bool.{Bool, true, false, cond, ◌&&◌, and-false, false≢true}
use native.Mathlib.Nat.{sub_self}
use native.Mathlib.Numerals.{add-one}
use native.Mathlib.Omega.{arith}
use lib.Dec.{eqb}
use lib.ListN.{length, get_or, take, drop, length-append, length-drop}
use lib.Seq.{drop-cons, drop-drop, take-add, take-suc, take_at}
use borrow.Author.Tests.{eqb-true}
use Rattle.iff.specs.Lines.{Line, crlf, before, lines, text, no_line}
use Rattle.text.specs.declared.LineSpan.{LineSpan}
use Rattle.text.specs.Spans.{span_line, LineAt}
use Rattle.text.proofs.LineLaws.{lines_two, lines_step, lines_nil}

crlf_true : (b c : ℕ) → crlf b c ≡ true → (b ≡ 13) × (c ≡ 10)
crlf_true b c e = go (eqb b 13) refl (eqb c 10) refl e
  where
    go : (p : Bool) → eqb b 13 ≡ p → (q : Bool) → eqb c 10 ≡ q → (p && q) ≡ true → (b ≡ 13) × (c ≡ 10)
    go true p true q e = (eqb-true _ _ p, eqb-true _ _ q)
    go true p false q e = absurd (false≢true e)
    go false p q r e = absurd (false≢true e)

text_before : (b : ℕ) (ls : List Line) → text (before b ls) ≡ b ∷ text ls
unfolding text before
text_before b [] = refl
text_before b (l ∷ ls) = refl

-- lines lose nothing
pub text_lines : (s : List ℕ) → text (lines s) ≡ s
unfolding text lines before
text_lines [] = refl
text_lines (b ∷ []) = refl
text_lines (b ∷ c ∷ s) = go (crlf b c) refl (text_lines s) (text_lines (c ∷ s))
  where
    go : (t : Bool) → crlf b c ≡ t → text (lines s) ≡ s → text (lines (c ∷ s)) ≡ c ∷ s → text (cond t (record { body = []; ended = true } ∷ lines s) (before b (lines (c ∷ s)))) ≡ b ∷ c ∷ s
    go true e p q = rw ((crlf_true b c e).0, (crlf_true b c e).1, p)
    go false e p q = text_before b (lines (c ∷ s)) ∙ rw q

-- a text that lines end with: what follows begins a line
abbrev pub Closed : List ℕ → Type 0
Closed a = (b : List ℕ) → lines (a ++ b) ≡ lines a ++ lines b

pub closed_none : Closed []
unfolding lines
closed_none b = refl

before_append : (b : ℕ) (ls ms : List Line) (l : Line) (ls' : List Line) → ls ≡ l ∷ ls' → before b (ls ++ ms) ≡ before b ls ++ ms
unfolding before
before_append b ls ms l ls' e = rw e

abbrev ending : List ℕ
ending = 13 ∷ 10 ∷ []

not_empty : (c : ℕ) (s : List ℕ) → (l : Line) × ((ls : List Line) × (lines (c ∷ s) ≡ l ∷ ls))
not_empty c s = (_, (_, lines_step (c ∷ s) (omega arith)))

-- CR LF closes
end_line : (b : List ℕ) → lines (ending ++ b) ≡ record { body = []; ended = true } ∷ lines b
end_line b = lines_two 13 10 b

one_line : (x : ℕ) (b : List ℕ) → lines (x ∷ ending ++ b) ≡ record { body = x ∷ []; ended = true } ∷ lines b
unfolding before
one_line x b =
    let n : crlf x 13 ≡ false = and-false (eqb x 13) in
    lines_two x 13 (10 ∷ b) ∙ rw (n, end_line b)

pub closed_end : (x : List ℕ) → Closed (x ++ ending)
closed_end [] b = end_line b ∙ rw (end_line [], lines_nil)
closed_end (x ∷ []) b = one_line x b ∙ rw (one_line x [], lines_nil)
closed_end (x ∷ y ∷ s) b = lines_two x y ((s ++ ending) ++ b) ∙ go (crlf x y) refl (closed_end s b) (closed_end (y ∷ s) b)
  where
    go : (t : Bool) → crlf x y ≡ t → lines ((s ++ ending) ++ b) ≡ lines (s ++ ending) ++ lines b
        → lines ((y ∷ s ++ ending) ++ b) ≡ lines (y ∷ s ++ ending) ++ lines b
        → cond t (record { body = []; ended = true } ∷ lines ((s ++ ending) ++ b)) (before x (lines ((y ∷ s ++ ending) ++ b))) ≡ lines
        (x ∷ y ∷ s ++ ending) ++ lines b
    go true e p q = rw (p, lines_two x y (s ++ ending), e)
    go false e p q =
        let n = not_empty y (s ++ ending) in
        rw (q, lines_two x y (s ++ ending), e) (before_append x (lines (y ∷ s ++ ending)) (lines b) n.0 n.1.0 n.1.1)

-- of two lists before one list, if one has one entry
one_before : (xs ys : List Line) (x : Line) → xs ++ ys ≡ x ∷ ys → xs ≡ x ∷ []
one_before xs ys x e =
    let n : length xs ≡ 1 = omega (arith, ap length e, length-append xs ys) in
    sym (take_at xs ys 1 n) ∙ ap (take 1) e

-- a line that is ended stands in its text as its body and CR LF
module _ (t : List ℕ) (at : ℕ) (s : LineSpan) (l : LineAt t at s) (ended : s.ended ≡ true) where
  bytes_at : drop at t ≡ (take (s.end - at) (drop at t) ++ ending) ++ drop s.next t
  unfolding text
  bytes_at = sym (text_lines (drop at t)) ∙ (ap text l.head ∙ rw (ended, text_lines (drop s.next t), append_assoc))

  part_length : length (take (s.end - at) (drop at t) ++ ending) ≡ s.next - at
  part_length =
      let h : length (drop at t) ≡ length (take (s.end - at) (drop at t) ++ ending) + length (drop s.next t) = ap length bytes_at ∙ rw length-append in
      omega (arith, length-drop at t, length-drop s.next t, l)

  pub part_ended : take (s.next - at) (drop at t) ≡ take (s.end - at) (drop at t) ++ ending
  part_ended = ap (take (s.next - at)) bytes_at ∙ take_at _ _ _ part_length

  -- and is the only line of that part
  pub part_line : lines (take (s.next - at) (drop at t)) ≡ span_line t at s ∷ []
  part_line =
      one_before (lines (take (s.next - at) (drop at t))) (lines (drop s.next t)) (span_line t at s)
      (rw part_ended (sym (closed_end (take (s.end - at) (drop at t)) (drop s.next t)) ∙ (ap lines (sym bytes_at) ∙ l.head)))

-- `at` is where line j of the lines from `from` on begins
pub record Cut (t : List ℕ) (from at j : ℕ) : Type 0 where
  pub low : from ≤ at
  pub few : j ≤ at - from
  pub closed : Closed (take (at - from) (drop from t))
  pub front : lines (take (at - from) (drop from t)) ≡ take j (lines (drop from t))
  pub rest : lines (drop at t) ≡ drop j (lines (drop from t))

pub cut_start : (t : List ℕ) (from : ℕ) → Cut t from from 0
cut_start t from =
    record {
      low = omega arith;
      few = omega arith;
      closed = rw sub_self closed_none;
      front = rw (sub_self, lines_nil);
      rest = refl;
    }

-- one line further
module _ (t : List ℕ) (from at j : ℕ) (s : LineSpan) (c : Cut t from at j) (l : LineAt t at s) where
  -- the line that stands there
  pub cut_head : drop j (lines (drop from t)) ≡ span_line t at s ∷ lines (drop s.next t)
  cut_head = sym c.rest ∙ l.head

  cut_inside : j < length (lines (drop from t))
  cut_inside =
      let h : length (drop j (lines (drop from t))) ≡ suc (length (lines (drop s.next t))) = ap length cut_head in
      omega (arith, length-drop j (lines (drop from t)))

  cut_split : drop j (lines (drop from t)) ≡ get_or (lines (drop from t)) j no_line ∷ drop (suc j) (lines (drop from t))
  cut_split = drop-cons (lines (drop from t)) j no_line cut_inside

  pub cut_line : get_or (lines (drop from t)) j no_line ≡ span_line t at s
  cut_line = let e : get_or (lines (drop from t)) j no_line ∷ drop (suc j) (lines (drop from t)) ≡ span_line t at s ∷ lines (drop s.next t) = sym cut_split ∙ cut_head in cc

  cut_rest : lines (drop s.next t) ≡ drop (j + 1) (lines (drop from t))
  cut_rest = let e : get_or (lines (drop from t)) j no_line ∷ drop (suc j) (lines (drop from t)) ≡ span_line t at s ∷ lines (drop s.next t) = sym cut_split ∙ cut_head in rw add-one (cc)

  -- the lines before it, and it
  pub cut_front : take (j + 1) (lines (drop from t)) ≡ take j (lines (drop from t)) ++ (span_line t at s ∷ [])
  cut_front = rw (add-one, take-suc (lines (drop from t)) j no_line cut_inside, cut_line)

  module _ (ended : s.ended ≡ true) where
    grown : take (s.next - from) (drop from t) ≡ (take (at - from) (drop from t) ++ take (s.end - at) (drop at t)) ++ ending
    grown =
        let n : s.next - from ≡ (at - from) + (s.next - at) = omega (arith, c.low, l) in
        let d : from + (at - from) ≡ at = omega (arith, c.low) in
        rw (n, take-add (at - from) (s.next - at) (drop from t), drop-drop, d, part_ended t at s l ended, append_assoc)

    pub cut_next : Cut t from s.next (j + 1)
    cut_next =
        record {
          low = omega (arith, c.low, l);
          few = omega (arith, c.low, c.few, l);
          closed = rw grown (closed_end (take (at - from) (drop from t) ++ take (s.end - at) (drop at t)));
          front = rw (grown, append_assoc, c.closed (take (s.end - at) (drop at t) ++ ending), ← (part_ended t at s l ended), c.front, cut_front) (rw (part_line t at s l ended));
          rest = cut_rest;
        }
