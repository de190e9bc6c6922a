-- Laws of the vector: one mark for each day, and nothing else. Assumes nothing.
use Prim.Native.Nat.{ℕ, zero, suc, ◌+◌, ◌-◌, ◌*◌, ◌≤◌, ◌<◌}
use mathlib.Core.Path.{◌≡◌, refl, ap, sym, ◌∙◌}
use mathlib.Core.List.{List, [], ◌∷◌, append-nil}
use mathlib.Core.Bool.{Bool, true, false, ◌&&◌, and-true}
use native.Mathlib.Omega.{arith}
use lib.ListN.{length, take, drop, set, replicate, length-replicate, length-set, drop_of_length-le}
use lib.Seq.{take_all, drop-drop}
use Rattle.text.proofs.PictureLaws.{unequal, same_length, all_front, all_rest}
use Rattle.iff.specs.Bytes.{allowed, zero_or_one}
use Rattle.iff.specs.Lists.{all, all2}
use Rattle.iff.specs.Columns.{column, figure, fits, figures, picture, picture_from, record_fields}
use Rattle.iff.specs.Values.{field_right, readable, words, field_words, bits, vector_words, vector_width}
use Rattle.iff.specs.Tables.{padded}
use Rattle.iff.specs.declared.Form.{Form}
use Rattle.iff.specs.declared.Record.TheVariants.{FootnoteVector}
use Rattle.records.proofs.RowLaws.{cleared_length, put_first, put_rest, put_next, put_last}

-- against one mark all the way, the test is one of bytes
against : (f : ℕ → ℕ → Bool) (p n : ℕ) (s : List ℕ) → length s ≡ n → all2 f s (replicate n p) ≡ all (λ b. f b p) s
unfolding all2 all
against f p zero [] e = refl
against f p zero (b ∷ s) e = absurd (omega arith)
against f p (suc n) [] e = absurd (omega arith)
against f p (suc n) (b ∷ s) e = ap (λ (t : Bool). f b p && t) (against f p n s (omega arith))

pub fits_allowed : (n : ℕ) (s : List ℕ) → length s ≡ n → all allowed s ≡ fits s (replicate n 109)
unfolding column
fits_allowed n s e = sym (against column 109 n s e)

pub fits_not : (n : ℕ) (s : List ℕ) → (length s ≡ n → ⊥) → false ≡ fits s (replicate n 109)
fits_not n s h = sym (unequal column s (replicate n 109) (λ e. h (e ∙ length-replicate n 109)))

figures_marks : (n : ℕ) (s : List ℕ) → length s ≡ n → all zero_or_one s ≡ figures s (replicate n 109)
unfolding figure
figures_marks n s e = sym (against figure 109 n s e)

module _ (form : Form) where
  pub vector_picture : picture (record_fields form FootnoteVector) ≡ replicate form.days 109
  unfolding record_fields picture_from
  vector_picture = let n : suc form.days - 1 ≡ form.days = omega arith in rw (n, append-nil)

  module _ (s : List ℕ) (h : fits s (picture (record_fields form FootnoteVector)) ≡ true) where
    pub vector_length : length s ≡ form.days
    vector_length = same_length column _ _ h ∙ ap length vector_picture ∙ length-replicate form.days 109

    pub vector_readable : all zero_or_one s ≡ readable s (record_fields form FootnoteVector)
    unfolding readable all field_right record_fields
    vector_readable =
        figures_marks form.days s vector_length
        ∙ ap (figures s) (sym vector_picture)
        ∙ sym (and-true (figures s (picture (record_fields form FootnoteVector))))
        ∙ last
      where
        last : (figures s (picture (record_fields form FootnoteVector)) && true) ≡ readable s (record_fields form FootnoteVector)
        last = refl

    pub vector_words_in : (n : ℕ) → words n s (record_fields form FootnoteVector) ≡ vector_words vector_width s
    unfolding record_fields words field_words
    vector_words_in n =
        let m : suc form.days - 1 ≡ form.days = omega arith in
        append-nil _ ∙ ap (λ (l : List ℕ). vector_words vector_width l) (take_all (suc form.days - 1) s (omega (arith, vector_length)))

-- 64 marks of many, from any mark on
pub marks_from : (k : ℕ) (s : List ℕ) → all zero_or_one s ≡ true → all zero_or_one (take 64 (drop k s)) ≡ true
marks_from k s e = all_front zero_or_one 64 (drop k s) (all_rest zero_or_one k s e)

pub marks_none : (k : ℕ) (s : List ℕ) → length s ≤ k → 0 ≡ bits 64 (drop k s)
unfolding bits
marks_none k s h = rw (drop_of_length-le s h)

marks_next : (n : ℕ) (s : List ℕ) → vector_words (suc n) s ≡ bits 64 s ∷ vector_words n (drop 64 s)
unfolding vector_words
marks_next n s = refl

marks_end : (s : List ℕ) → vector_words 0 s ≡ []
unfolding vector_words
marks_end s = refl

-- a loop that has put i words of marks into t: what is left to put are the words of the marks that are left
pub record Marking (tag : ℕ) (s t₀ t : List ℕ) (i : ℕ) : Type 0 where
  pub few : i ≤ vector_width
  pub room : vector_width < length t
  pub kept : length t ≡ length t₀
  pub left : drop (i + 1) (tag ∷ vector_words vector_width s) ≡ vector_words (vector_width - i) (drop (i * 64) s)
  pub put : t ≡ padded (length t₀) (take (i + 1) (tag ∷ vector_words vector_width s))

-- zeros, m of them, with the tag put
pub mark_begin : (tag : ℕ) (s : List ℕ) (m : ℕ) (t : List ℕ) → vector_width < m → t ≡ replicate m 0 → Marking tag s (set t 0 tag) (set t 0 tag) 0
mark_begin tag s m t h e =
    let l : length (set t 0 tag) ≡ m = cleared_length m t tag e in
    record {
      few = omega arith;
      room = omega arith;
      kept = refl;
      left = refl;
      put = rw l (put_first m tag t (vector_words vector_width s) (omega arith) e);
    }

module _ (tag : ℕ) (s t₀ : List ℕ) where
  module _ (t : List ℕ) (i : ℕ) where
    pub mark_on : i < vector_width → Marking tag s t₀ t i → (v : ℕ) → v ≡ bits 64 (drop (i * 64) s) → Marking tag s t₀ (set t (i + 1) v) (i + 1)
    mark_on h l v e =
        let d : drop (i + 1) (tag ∷ vector_words vector_width s) ≡ v ∷ vector_words (vector_width - (i + 1)) (drop ((i + 1) * 64) s) = l.left ∙ step in
        record {
          few = omega arith;
          room = rw length-set l.room;
          kept = rw length-set l.kept;
          left = put_rest (length t₀) _ (i + 1) v _ d;
          put = put_next (length t₀) _ (i + 1) v _ d t l.put (omega arith);
        }
      where
        step : vector_words (vector_width - i) (drop (i * 64) s) ≡ v ∷ vector_words (vector_width - (i + 1)) (drop ((i + 1) * 64) s)
        step =
            let n : vector_width - i ≡ suc (vector_width - (i + 1)) = omega arith in
            let k : i * 64 + 64 ≡ (i + 1) * 64 = omega arith in
            rw (n, marks_next, drop-drop, k, e)

    pub mark_end : vector_width ≤ i → Marking tag s t₀ t i → (m : ℕ) → length t₀ ≡ m → t ≡ padded m (tag ∷ vector_words vector_width s)
    mark_end h l m e =
        let n : vector_width - i ≡ 0 = omega arith in
        rw (← e) (put_last (length t₀) _ (i + 1) t l.put (l.left ∙ rw (n, marks_end)))
