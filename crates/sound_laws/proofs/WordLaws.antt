-- A line that is laid out and readable leaves words that are right: once over the field's class, then over any list of fields. Assumes nothing.
use Prim.Native.Nat.{ℕ, zero, suc, ◌+◌, ◌-◌, ◌^◌, ◌≤◌, ◌<◌}
use mathlib.Core.Path.{◌≡◌, refl, ap, ◌∙◌}
use mathlib.Core.List.{List, [], ◌∷◌, ◌++◌, append_assoc}
use mathlib.Core.Bool.{Bool, true, false, ◌&&◌, ◌||◌, cond}
use native.Mathlib.Omega.{arith}
use lib.Dec.{eqb, ltb, leb, lit<}
use lib.ListN.{length, get_or, take, drop, replicate, length-replicate, length-take, get_or-eq_default}
use lib.Seq.{take_at, drop_at, drop-drop, get_or-take, get_or-drop}
use borrow.Author.Tests.{eq-eqb, lt-ltb, ltb-true, ltb-false, leb-true, not-true}
use Rattle.iff.specs.Bytes.{comma, digit}
use Rattle.iff.specs.Lists.{all, all2}
use Rattle.iff.specs.Columns.{Class, Letter, Number, StopNumber, NumberOrAny, Code, Marks, Text, Unread, Field, columns, mark, picture_from, picture, column, figure, fits, figures}
use Rattle.iff.specs.Values.{code_of, wildcard, is_wildcard, field_right, readable, company_or_any, number_of, bits, vector_words, vector_width, field_words, words, vector_right, word_right, words_of, words_right, word_count}
use Rattle.iff.specs.Tables.{padded}
use Rattle.iff_desk.specs.Sound.{shaped}
use Rattle.text.proofs.PictureLaws.{and_left, and_right, same_length, fronts_pass, rests_pass, against_one, digits_of, marks_of, same_is}
use Rattle.text.proofs.PackLaws.{Each, number_below, code_right_lem, vector_right_lem}
use Rattle.tables.proofs.Filled.{zeros_all}
use Rattle.records.proofs.RowLaws.{words_length}

-- ONE FIELD
-- a vector's words are right whatever stands behind them
marks_ahead : (n days : ℕ) (s rest : List ℕ) → vector_right n days (vector_words n s) ≡ true → vector_right n days (vector_words n s ++ rest) ≡ true
unfolding vector_right vector_words
marks_ahead zero days s rest e = refl
marks_ahead (suc n) days s rest e =
    rw (and_left (ltb (bits 64 s) _) _ e) (marks_ahead n (days - 64) (drop 64 s) rest (and_right (ltb (bits 64 s) _) _ e))

or_second : (a : Bool) {b : Bool} → b ≡ true → (a || b) ≡ true
or_second true e = refl
or_second false e = e

or_none : (a : Bool) → (a || false) ≡ true → a ≡ true
or_none true e = refl
or_none false e = e

-- a company is a number or the wildcard
company_right : (s rest : List ℕ) → (all digit s || is_wildcard s) ≡ true → word_right NumberOrAny (length s) (company_or_any s ∷ rest) ≡ true
unfolding word_right company_or_any
company_right s rest e = go (is_wildcard s) refl e
  where
    go : (b : Bool) → is_wildcard s ≡ b → (all digit s || b) ≡ true
        → (ltb (cond b (code_of s) (number_of s)) (10 ^ length s) || eqb (cond b (code_of s) (number_of s)) (code_of (wildcard (length s)))) ≡ true
    go true w e = or_second (ltb (code_of s) (10 ^ length s)) (eq-eqb _ _ (ap code_of (same_is s (wildcard (length s)) w)))
    go false w e = rw (lt-ltb (number_of s) (10 ^ length s) (number_below s (or_none (all digit s) e)))

-- what the columns of a field are, so that its words are right
pub record Passed (k : Class) (w : ℕ) (s : List ℕ) : Type 0 where
  pub wide : length s ≡ w
  pub bytes : Each 256 s
  pub laid_out_lem : all2 column s (replicate w (mark k)) ≡ true
  pub figured : all2 figure s (replicate w (mark k)) ≡ true
  pub right : field_right k s ≡ true

module _ (n w : ℕ) (s rest : List ℕ) where
  field_right_lem : (k : Class) → Passed k w s → word_right k w (field_words n k s ++ rest) ≡ true
  unfolding word_right field_words field_right column
  field_right_lem Letter p = refl
  field_right_lem Number p = rw (← p.wide) (lt-ltb _ _ (number_below s (digits_of w s p.figured)))
  field_right_lem StopNumber p = refl
  field_right_lem NumberOrAny p = rw (← p.wide) (company_right s rest p.right)
  field_right_lem Code p = rw (← p.wide) (code_right_lem s p.bytes (against_one column 99 w s p.laid_out_lem) (not-true _ p.right))
  field_right_lem Marks p = rw (← p.wide) (marks_ahead vector_width (length s) s rest (vector_right_lem vector_width s (marks_of w s p.figured)))
  field_right_lem Text p = refl
  field_right_lem Unread p = refl

  -- behind a field's words stand those of the others
  behind : (k : Class) → drop (words_of k) (field_words n k s ++ rest) ≡ rest
  unfolding field_words vector_words
  behind Letter = refl
  behind Number = refl
  behind StopNumber = refl
  behind NumberOrAny = refl
  behind Code = refl
  behind Marks = refl
  behind Text = refl
  behind Unread = refl

-- A LIST OF FIELDS, from column k on, none of which begins before the one before it ends
abbrev pub in_turn : ℕ → List Field → Bool
in_turn k [] = true
in_turn k (f ∷ fs) = leb k f.from && in_turn (f.from + f.width) fs

-- a picture's parts, and the bytes beside each
module _ (p : ℕ → ℕ → Bool) (s a b : List ℕ) (e : all2 p s (a ++ b) ≡ true) where
  beside_front : all2 p (take (length a) s) a ≡ true
  beside_front = rw (take_at a b (length a) refl) at (fronts_pass p (length a) s (a ++ b) e)

  beside_rest : all2 p (drop (length a) s) b ≡ true
  beside_rest = rw (drop_at a b (length a) refl) at (rests_pass p (length a) s (a ++ b) e)

module _ (p : ℕ → ℕ → Bool) (body : List ℕ) (k : ℕ) (f : Field) (fs : List Field) (low : 1 ≤ k) (h : k ≤ f.from) where
  abbrev Beside : Type 0
  Beside = all2 p (drop (k - 1) body) (picture_from k (f ∷ fs)) ≡ true

  past_gap : Beside → all2 p (drop (f.from - 1) body) (replicate f.width (mark f.class) ++ picture_from (f.from + f.width) fs) ≡ true
  unfolding picture_from
  past_gap e =
      let z : k - 1 + (f.from - k) ≡ f.from - 1 = omega arith in
      rw (length-replicate, drop-drop, z) at (beside_rest p (drop (k - 1) body) (replicate (f.from - k) comma) _ e)

  pub in_field : Beside → all2 p (columns body f) (replicate f.width (mark f.class)) ≡ true
  in_field e = rw length-replicate at (beside_front p (drop (f.from - 1) body) (replicate f.width (mark f.class)) _ (past_gap e))

  pub past_field : Beside → all2 p (drop (f.from + f.width - 1) body) (picture_from (f.from + f.width) fs) ≡ true
  past_field e =
      let z : f.from - 1 + f.width ≡ f.from + f.width - 1 = omega arith in
      rw (length-replicate, drop-drop, z) at (beside_rest p (drop (f.from - 1) body) (replicate f.width (mark f.class)) _ (past_gap e))

part_bytes : (m n : ℕ) (body : List ℕ) → Each 256 body → Each 256 (take m (drop n body))
part_bytes m n body b i = go (ltb i m) refl
  where
    go : (t : Bool) → ltb i m ≡ t → get_or (take m (drop n body)) i 0 < 256
    go true q = rw (get_or-take, ltb-true _ _ q, get_or-drop) (b (n + i))
    go false q =
        let h : m ≤ i = ltb-false i m q in
        let l : length (take m (drop n body)) ≤ i = rw length-take (omega arith) in
        rw (get_or-eq_default (take m (drop n body)) 0 {n = i} l) (lit< tt)

module _ (n : ℕ) (body : List ℕ) (bytes : Each 256 body) where
  pub words_right_lem : (k : ℕ) (fs : List Field) (rest : List ℕ) → 1 ≤ k → in_turn k fs ≡ true
      → all2 column (drop (k - 1) body) (picture_from k fs) ≡ true
      → all2 figure (drop (k - 1) body) (picture_from k fs) ≡ true
      → all (λ f. field_right f.class (columns body f)) fs ≡ true
      → words_right (words n body fs ++ rest) fs ≡ true
  unfolding words_right words all
  words_right_lem k [] rest low t c g r = refl
  words_right_lem k (f ∷ fs) rest low t c g r =
      let h : k ≤ f.from = leb-true _ _ (and_left (leb k f.from) _ t) in
      let lays = in_field column body k f fs low h c in
      let p : Passed f.class f.width (columns body f) = record {
        wide = same_length column _ _ lays ∙ length-replicate f.width (mark f.class);
        bytes = part_bytes f.width (f.from - 1) body bytes;
        laid_out_lem = lays;
        figured = in_field figure body k f fs low h g;
        right = and_left (field_right f.class (columns body f)) _ r;
      } in
      let others = words n body fs ++ rest in
      rw (
        append_assoc,
        field_right_lem n f.width (columns body f) others f.class p,
        behind n f.width (columns body f) others f.class,
      )
      (words_right_lem (f.from + f.width) fs rest (omega arith) (and_right (leb k f.from) _ t)
      (past_field column body k f fs low h c) (past_field figure body k f fs low h g) (and_right (field_right f.class (columns body f)) _ r))

-- A ROW: the tag, the words of a line, and zeros
module _ (body : List ℕ) (bytes : Each 256 body) (fs : List Field) (turn : in_turn 1 fs ≡ true) (lays : fits body (picture fs) ≡ true)
    (reads : readable body fs ≡ true) where
  pub line_words_lem : (n : ℕ) (rest : List ℕ) → words_right (words n body fs ++ rest) fs ≡ true
  unfolding readable
  line_words_lem n rest =
      words_right_lem n body bytes 1 fs rest (omega arith) turn lays (and_left (figures body (picture fs)) _ reads)
      (and_right (figures body (picture fs)) _ reads)

  pub line_shaped : (n w t : ℕ) → shaped fs (padded w (t ∷ words n body fs)) ≡ true
  unfolding shaped padded
  line_shaped n w t =
      let z : suc (length (words n body fs)) ≡ suc (word_count fs) = ap suc (words_length n body fs) in
      let left = w - suc (length (words n body fs)) in
      let zeros : List ℕ = replicate left 0 in
      rw (line_words_lem n zeros, drop_at (t ∷ words n body fs) zeros (suc (word_count fs)) z) (zeros_all left)
