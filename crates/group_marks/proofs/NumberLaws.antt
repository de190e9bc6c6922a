-- Laws of the marks of rows: what has no mark is new, and how the marks go on. Assumes nothing.
use Prim.Native.Nat.{ℕ}
use mathlib.Core.Path.{◌≡◌, refl, ap, sym, ◌∙◌, subst}
use mathlib.Core.List.{List, [], ◌∷◌, ◌++◌, map, map-append}
use mathlib.Core.Bool.{Bool, true, false, not, ◌&&◌, ◌||◌, cond, false≢true}
use borrow.Author.Tests.{eqb-true, eq-eqb, ne_eqb}
use lib.Dec.{eqb}
use lib.ListN.{length, drop}
use Rattle.iff.specs.Bytes.{hash}
use Rattle.iff.specs.Lists.{any, has}
use Rattle.iff.specs.Tables.{Row, tag}
use Rattle.iff.specs.Words.{named, from_service, to_service, from_company, from_mode, to_company, to_mode, exception_footnote}
use Rattle.iff.specs.declared.GroupFile.{GroupFile}
use Rattle.iff.specs.declared.GroupFile.TheVariants.{Timezone, Footnote, Changes, Xfootnote, Xchanges}
use Rattle.iff.specs.declared.File.TheVariants.{Groups}
use Rattle.iff_rules.specs.Unique.{same_in, clash, fresh_key, fresh_in_group}
use Rattle.marks.specs.Marks.{slots, with_marks, Marked}
use Rattle.marks.proofs.MarkLaws.{still_marked, marked_next}
use Rattle.group_marks.specs.Numbers.{stirred, stirred_in, key_number, row_number, number_in, Remembered, with_row}

-- NEW
-- where this number is none of theirs, none passes a test that only those of the same number pass
none_of : {A : Type 0} (p : A → Bool) (g : A → ℕ) (n : ℕ) → ((x : A) → p x ≡ true → n ≡ g x) → (xs : List A) → has n (map g xs) ≡ false
    → any p xs ≡ false
unfolding any
none_of p g n h [] e = refl
none_of p g n h (x ∷ xs) e = go (p x) refl (eqb n (g x)) refl e (none_of p g n h xs)
  where
    go : (a : Bool) → p x ≡ a → (b : Bool) → eqb n (g x) ≡ b → (b || has n (map g xs)) ≡ false → (has n (map g xs) ≡ false → any p xs ≡ false)
        → (a || any p xs) ≡ false
    go true i b j e ih = absurd (false≢true (sym e ∙ rw (sym j ∙ eq-eqb n (g x) (h x i))))
    go false i true j e ih = absurd (false≢true (sym e))
    go false i false j e ih = ih e

-- words that are the same are mixed in to the same number
same_number : (ws : List (Row → ℕ)) (n : ℕ) (r e : Row) → same_in ws r e ≡ true → stirred_in ws n r ≡ stirred_in ws n e
same_number [] n r e h = refl
same_number (w ∷ ws) n r e h = go (eqb (w r) (w e)) refl h (same_number ws (stirred n (w e)) r e)
  where
    go : (b : Bool) → eqb (w r) (w e) ≡ b → (b && same_in ws r e) ≡ true
        → (same_in ws r e ≡ true → stirred_in ws (stirred n (w e)) r ≡ stirred_in ws (stirred n (w e)) e)
        → stirred_in ws (stirred n (w r)) r ≡ stirred_in ws (stirred n (w e)) e
    go true i h ih = ap (λ (x : ℕ). stirred_in ws (stirred n x) r) (eqb-true (w r) (w e) i) ∙ ih h
    go false i h ih = absurd (false≢true h)

-- rows that clash have the same number
pub clash_number : (f : GroupFile) (from : ℕ) (r e : Row) → clash f r e ≡ true → row_number f from r ≡ row_number f from e
unfolding row_number
clash_number Timezone from r e h = refl
clash_number Footnote from r e h = refl
clash_number Changes from r e h = same_number (from_service ∷ to_service ∷ []) from r e h
clash_number Xfootnote from r e h = refl
clash_number Xchanges from r e h = same_number (from_company ∷ from_mode ∷ to_company ∷ to_mode ∷ exception_footnote ∷ []) from r e h

-- a row whose number is none of the keys' and none of the rows' is new
pub new_row : (f : GroupFile) (from : ℕ) (keys : List ℕ) (rows : List Row) (r : Row)
    → has (number_in f from r) (map key_number keys) ≡ false → has (number_in f from r) (map (row_number f from) rows) ≡ false
    → true ≡ (fresh_key (Groups f) keys r && fresh_in_group f rows r)
unfolding fresh_key fresh_in_group
new_row f from keys rows r k m = go (eqb (tag r) hash) k m
  where
    go : (b : Bool) → has (cond b (key_number (named r)) (row_number f from r)) (map key_number keys) ≡ false
        → has (cond b (key_number (named r)) (row_number f from r)) (map (row_number f from) rows) ≡ false
        → true ≡ (cond b (not (has (named r) keys)) true && cond b true (not (any (clash f r) rows)))
    go true k m = rw (none_of (eqb (named r)) key_number (key_number (named r)) (λ x e. ap key_number (eqb-true (named r) x e)) keys k)
    go false k m = rw (none_of (clash f r) (row_number f from) (row_number f from r) (clash_number f from r) rows m)

-- the same by its marks
pub told_new : (f : GroupFile) (from : ℕ) (keys : List ℕ) (rows : List Row) (r : Row) (marks : List ℕ) (n : ℕ) → n ≡ number_in f from r
    → length marks ≡ slots → ((ns : List ℕ) → Marked marks ns → has n ns ≡ false) → Remembered f keys from rows marks
    → true ≡ (fresh_key (Groups f) keys r && fresh_in_group f rows r)
told_new f from keys rows r marks n q w u m =
    new_row f from keys rows r
    (subst (λ (x : ℕ). has x (map key_number keys) ≡ false) q (u (map key_number keys) (m.keyed w)))
    (subst (λ (x : ℕ). has x (map (row_number f from) rows) ≡ false) q (u (map (row_number f from) rows) (m.rowed w)))

-- THE MARKS GO ON
-- nothing is asked of the marks of none
marked_none : (marks : List ℕ) → length marks ≡ slots → Marked marks []
unfolding any
marked_none marks n = record { wide = n; one = λ k e. absurd (false≢true e); other = λ k e. absurd (false≢true e) }

-- so before the first row they may be anything
pub none_remembered : (f : GroupFile) (from : ℕ) (marks : List ℕ) → Remembered f [] from [] marks
none_remembered f from marks = record { keyed = λ n. marked_none marks n; rowed = λ n. marked_none marks n }

-- a group opens
pub opens : (f : GroupFile) (keys : List ℕ) (from : ℕ) (rows : List Row) (marks : List ℕ) → Remembered f keys from rows marks
    → (next : ℕ) → Remembered f keys next [] marks
opens f keys from rows marks m next = record { keyed = m.keyed; rowed = λ n. marked_none marks n }

module _ (f : GroupFile) (from : ℕ) (r : Row) (marks : List ℕ) where
  -- a row is marked where there are marks
  pub row_marked : (n : ℕ) (with : List ℕ) → length marks ≡ slots → n ≡ number_in f from r → with ≡ with_marks marks n → with ≡ with_row f from r marks
  unfolding with_row
  row_marked n with w q e = e ∙ (ap (λ (x : ℕ). with_marks marks x) q ∙ rw (eq-eqb (length marks) slots w))

  pub row_unmarked : (length marks ≡ slots → ⊥) → marks ≡ with_row f from r marks
  unfolding with_row
  row_unmarked h = rw (ne_eqb (length marks) slots h)

  -- a row's marks harm none
  marked_on : (ns : List ℕ) → (length marks ≡ slots → Marked marks ns) → length (with_row f from r marks) ≡ slots
      → Marked (with_row f from r marks) ns
  unfolding with_row
  marked_on ns m = go (eqb (length marks) slots) refl
    where
      go : (b : Bool) → eqb (length marks) slots ≡ b → length (cond b (with_marks marks (number_in f from r)) marks) ≡ slots
          → Marked (cond b (with_marks marks (number_in f from r)) marks) ns
      go true e n = still_marked marks ns (number_in f from r) (m (eqb-true _ _ e))
      go false e n = m n

  -- and are its own
  marked_own : (ns : List ℕ) → (length marks ≡ slots → Marked marks ns) → length (with_row f from r marks) ≡ slots
      → Marked (with_row f from r marks) (ns ++ (number_in f from r ∷ []))
  unfolding with_row
  marked_own ns m = go (eqb (length marks) slots) refl
    where
      go : (b : Bool) → eqb (length marks) slots ≡ b → length (cond b (with_marks marks (number_in f from r)) marks) ≡ slots
          → Marked (cond b (with_marks marks (number_in f from r)) marks) (ns ++ (number_in f from r ∷ []))
      go true e n = marked_next marks ns (number_in f from r) (m (eqb-true _ _ e))
      go false e n = absurd (false≢true (sym e ∙ eq-eqb (length marks) slots n))

  -- whichever number it is
  marked_with : (ns : List ℕ) (n : ℕ) → number_in f from r ≡ n → (length marks ≡ slots → Marked marks ns) → length (with_row f from r marks) ≡ slots
      → Marked (with_row f from r marks) (ns ++ (n ∷ []))
  marked_with ns n q m h = subst (λ (x : ℕ). Marked (with_row f from r marks) (ns ++ (x ∷ []))) q (marked_own ns m h)

  module _ (keys : List ℕ) (rows : List Row) (m : Remembered f keys from rows marks) where
    -- a `#` is a key more, and opens a group
    pub key_more : eqb (tag r) hash ≡ true → (next : ℕ) → Remembered f (keys ++ (named r ∷ [])) next [] (with_row f from r marks)
    key_more h next =
        record {
          keyed = λ n. rw (map-append key_number keys (named r ∷ [])) (marked_with (map key_number keys) (key_number (named r)) (rw h) m.keyed n);
          rowed = λ n. marked_none (with_row f from r marks) n;
        }

    -- another is a row more of its group
    row_more : eqb (tag r) hash ≡ false → Remembered f keys from (rows ++ (r ∷ [])) (with_row f from r marks)
    row_more h =
        record {
          keyed = λ n. marked_on (map key_number keys) m.keyed n;
          rowed = λ n. rw (map-append (row_number f from) rows (r ∷ [])) (marked_with (map (row_number f from) rows) (row_number f from r) (rw h) m.rowed n);
        }

  -- which may lack its `#`
  pub rest_more : eqb (tag r) hash ≡ false → (keys : List ℕ) (g : List Row) → Remembered f keys from (drop 1 g) marks
      → Remembered f keys from (drop 1 (g ++ (r ∷ []))) (with_row f from r marks)
  rest_more h keys [] m = opens f keys from (r ∷ []) (with_row f from r marks) (row_more keys [] m h) from
  rest_more h keys (x ∷ g) m = row_more keys g m h
