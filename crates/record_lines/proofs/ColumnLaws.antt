-- Laws of one field of a line, as an entry of the table says where it lies. Assumes nothing.
use Prim.Native.Nat.{ℕ, ◌+◌, ◌-◌, ◌≤◌, ◌<◌}
use mathlib.Core.Path.{◌≡◌, refl, ap, sym, ◌∙◌}
use mathlib.Core.List.{List, [], ◌∷◌, ◌++◌}
use mathlib.Core.Bool.{Bool, true, false, ◌&&◌}
use native.Mathlib.Omega.{arith}
use lib.ListN.{length, take, drop, set, replicate, length-drop, length-set}
use lib.Seq.{slice, slice_empty, length-take-le}
use Rattle.iff.specs.Lists.{all}
use Rattle.iff.specs.Tables.{padded}
use Rattle.iff.specs.Columns.{Field, columns}
use Rattle.iff.specs.Values.{field_right, field_words, words}
use Rattle.records.specs.declared.Entry.{Entry}
use Rattle.records.specs.Layouts.{fields, field_at, word_by, right_by, right_in}
use Rattle.records.specs.Facts.{EntryOf, Inside, is_inside, Entries}
use Rattle.records.proofs.FieldLaws.{word_by_lem, right_by_lem, is_inside_lem, slice_step, all_here, all_next, all_step}
use Rattle.records.proofs.RowLaws.{cleared_length, put_first, put_rest, put_next, put_last}

module _ (j : ℕ) (e : Entry) (o : EntryOf j e) (s : List ℕ) (f : Inside (length s) (field_at j)) where
  -- the bytes that the entry says
  abbrev bytes : List ℕ
  bytes = take (e.0 - 1 + e.1 - (e.0 - 1)) (drop (e.0 - 1) s)

  -- are the field's columns
  part : bytes ≡ columns s (field_at j)
  part =
      let n : e.0 - 1 + e.1 - (e.0 - 1) ≡ (field_at j).width = omega (arith, o.wide) in
      rw (n, o.begins)

  pub part_small : length bytes ≤ 8
  part_small =
      let n : e.0 - 1 + e.1 - (e.0 - 1) ≡ e.1 = omega arith in
      let m : length (drop (e.0 - 1) s) ≡ length s - (e.0 - 1) = length-drop (e.0 - 1) s in
      rw (n, length-take-le e.1 (drop (e.0 - 1) s) (omega (arith, o.wide, o.begins, f.within))) (omega (arith, o.wide, f.small))

  pub part_word : (n v : ℕ) → v ≡ word_by e.2 n bytes → field_words n (field_at j).class (columns s (field_at j)) ≡ v ∷ []
  part_word n v q = word_by_lem n (field_at j).class (columns s (field_at j)) f.one ∙ ap (λ (w : ℕ). w ∷ []) (sym (q ∙ rw (o.classed, part)))

  pub part_right : (b : Bool) → b ≡ right_by e.2 bytes → b ≡ field_right (field_at j).class (columns s (field_at j))
  part_right b q = q ∙ rw (o.classed, part) (sym (right_by_lem (field_at j).class (columns s (field_at j)) f.one))

-- the words of a field, and of those after it
words_cons : (n : ℕ) (s : List ℕ) (f : Field) (fs : List Field) → words n s (f ∷ fs) ≡ field_words n f.class (columns s f) ++ words n s fs
unfolding words
words_cons n s f fs = refl

words_nil : (n : ℕ) (s : List ℕ) → words n s [] ≡ []
unfolding words
words_nil n s = refl

-- THE LOOP OVER THE FIELDS OF A RECORD
-- that tests them: what is left to test is the whole, and lies inside the line
pub record Testing (s : List ℕ) (first end j : ℕ) : Type 0 where
  pub in_turn : j ≤ end
  pub whole : right_in s (slice first end fields) ≡ right_in s (slice j end fields)
  pub all_inside : all (is_inside (length s)) (slice j end fields) ≡ true

module _ (s : List ℕ) (first end j : ℕ) where
  right_step : j < end → end ≤ 51
      → right_in s (slice j end fields) ≡ (field_right (field_at j).class (columns s (field_at j)) && right_in s (slice (j + 1) end fields))
  unfolding right_in
  right_step h k = all_step (λ f. field_right f.class (columns s f)) j end h k

  pub test_inside : j < end → end ≤ 51 → Testing s first end j → Inside (length s) (field_at j)
  test_inside h k l = is_inside_lem _ _ (all_here (is_inside (length s)) j end h k l.all_inside)

  pub test_fails : j < end → end ≤ 51 → Testing s first end j → field_right (field_at j).class (columns s (field_at j)) ≡ false
      → false ≡ right_in s (slice first end fields)
  test_fails h k l e = sym (l.whole ∙ right_step h k ∙ rw e)

  pub test_on : j < end → end ≤ 51 → Testing s first end j → field_right (field_at j).class (columns s (field_at j)) ≡ true
      → Testing s first end (j + 1)
  test_on h k l e =
      record {
        in_turn = omega arith;
        whole = l.whole ∙ right_step h k ∙ rw e;
        all_inside = all_next (is_inside (length s)) j end h k l.all_inside;
      }

  pub test_end : end ≤ j → Testing s first end j → true ≡ right_in s (slice first end fields)
  unfolding right_in all
  test_end h l =
      let q : j ≡ end = omega arith in
      sym (l.whole ∙ rw (q, slice_empty))

-- that puts their words into t, k of them already: what is left to put is what the fields from j on leave, and they lie inside the line
pub record Putting (tag n : ℕ) (s : List ℕ) (first end : ℕ) (t₀ t : List ℕ) (k j : ℕ) : Type 0 where
  pub in_turn : j ≤ end
  pub room : k + (end - j) ≤ length t
  pub kept : length t ≡ length t₀
  pub all_inside : all (is_inside (length s)) (slice j end fields) ≡ true
  pub left : drop k (tag ∷ words n s (slice first end fields)) ≡ words n s (slice j end fields)
  pub put : t ≡ padded (length t₀) (take k (tag ∷ words n s (slice first end fields)))

-- zeros, m of them, with the tag put
pub put_begin : (tag n : ℕ) (s : List ℕ) (first end m : ℕ) (t : List ℕ) → Entries first end s → end - first < m → t ≡ replicate m 0
    → Putting tag n s first end (set t 0 tag) (set t 0 tag) 1 first
put_begin tag n s first end m t p h e =
    let l : length (set t 0 tag) ≡ m = cleared_length m t tag e in
    record {
      in_turn = p.in_turn;
      room = omega arith;
      kept = refl;
      all_inside = p.all_inside;
      left = refl;
      put = rw l (put_first m tag t (words n s (slice first end fields)) (omega arith) e);
    }

module _ (tag n : ℕ) (s : List ℕ) (first end : ℕ) (t₀ : List ℕ) where
  module _ (t : List ℕ) (k j : ℕ) where
    pub put_inside : j < end → end ≤ 51 → Putting tag n s first end t₀ t k j → Inside (length s) (field_at j)
    put_inside h b l = is_inside_lem _ _ (all_here (is_inside (length s)) j end h b l.all_inside)

    pub put_on : j < end → end ≤ 51 → Putting tag n s first end t₀ t k j → (v : ℕ) → field_words n (field_at j).class (columns s (field_at j)) ≡ v ∷ []
        → Putting tag n s first end t₀ (set t k v) (k + 1) (j + 1)
    put_on h b l v e =
        let d : drop k (tag ∷ words n s (slice first end fields)) ≡ v ∷ words n s (slice (j + 1) end fields) = l.left ∙ word_step in
        record {
          in_turn = omega arith;
          room = rw length-set (omega arith);
          kept = rw length-set l.kept;
          all_inside = all_next (is_inside (length s)) j end h b l.all_inside;
          left = put_rest (length t₀) _ k v _ d;
          put = put_next (length t₀) _ k v _ d t l.put (omega arith);
        }
      where
        word_step : words n s (slice j end fields) ≡ v ∷ words n s (slice (j + 1) end fields)
        word_step =
            ap (words n s) (slice_step j end h b)
            ∙ words_cons n s (field_at j) _
            ∙ ap (λ (l : List ℕ). l ++ words n s (slice (j + 1) end fields)) e

    pub put_end : end ≤ j → Putting tag n s first end t₀ t k j → (m : ℕ) → length t₀ ≡ m → t ≡ padded m (tag ∷ words n s (slice first end fields))
    put_end h l m e =
        let q : j ≡ end = omega arith in
        rw (← e) (put_last (length t₀) _ k t l.put (l.left ∙ rw (q, slice_empty, words_nil)))
