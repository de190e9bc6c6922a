-- Numbers of texts: equal texts have equal numbers. Assumes nothing.
use Prim.Native.Nat.{ℕ}
use mathlib.Core.Path.{◌≡◌, refl, ap, sym, ◌∙◌, subst}
use mathlib.Core.List.{List, [], ◌∷◌, ◌++◌, append-nil, append_assoc}
use mathlib.Core.Bool.{Bool, true, false, ◌||◌, false≢true}
use borrow.Author.Tests.{eq-eqb}
use lib.Dec.{eqb}
use Rattle.std.specs.List.{fold}
use Rattle.iff.specs.Lists.{any, has, same}
use Rattle.iff.specs.Lines.{Line}
use Rattle.iff.specs.declared.RowFile.{RowFile}
use Rattle.iff.specs.declared.RowFile.TheVariants.{Company, Country, Trnsmode, Stations}
use Rattle.iff_rules.specs.Unique.{unique_texts, same_text, fresh_texts}
use Rattle.text.proofs.PictureLaws.{same_is}
use Rattle.marks.specs.Marks.{with_marks, Marked}
use Rattle.marks.proofs.MarkLaws.{marked_next}
use Rattle.fresh_texts.specs.Texts.{shares_text}
use Rattle.fresh_texts.proofs.TextLaws.{shares}
use Rattle.text_numbers.specs.Numbers.{next_number, text_number, columns_number, text_numbers, numbers_of, some_in}

-- a number is counted byte by byte
pub byte_by_byte : (text : List ℕ) (number : ℕ) → fold next_number number text ≡ text_number number text
unfolding text_number
byte_by_byte [] number = refl
byte_by_byte (b ∷ bs) number = byte_by_byte bs (next_number number b)

-- TEXTS WHOSE NUMBERS DIFFER differ
differ : (s t : List ℕ) → eqb (text_number 0 s) (text_number 0 t) ≡ false → same s t ≡ false
differ s t e = go (same s t) refl
  where
    go : (b : Bool) → same s t ≡ b → same s t ≡ false
    go true q = absurd (false≢true (sym e ∙ eq-eqb _ _ (ap (text_number 0) (same_is s t q))))
    go false q = q

-- one line's numbers and those of the others, taken apart
two : (a b c d e f : Bool) → ((a || (b || c)) || ((d || (e || f)) || false)) ≡ false → (a ≡ false) × (e ≡ false) × ((c || (f || false)) ≡ false)
two true b c d e f q = absurd (false≢true (sym q))
two false true c d e f q = absurd (false≢true (sym q))
two false false true d e f q = absurd (false≢true (sym q))
two false false false true e f q = absurd (false≢true (sym q))
two false false false false true f q = absurd (false≢true (sym q))
two false false false false false true q = absurd (false≢true (sym q))
two false false false false false false q = (refl, refl, refl)

one : (a c : Bool) → ((a || c) || false) ≡ false → (a ≡ false) × ((c || false) ≡ false)
one true c q = absurd (false≢true (sym q))
one false c q = (refl, q)

apart : (f : RowFile) (a b rest : List ℕ) → some_in (text_numbers f b ++ rest) (text_numbers f a) ≡ false
    → (shares_text f a b ≡ false) × (some_in rest (text_numbers f a) ≡ false)
unfolding any
apart Company a b rest e =
    let code = columns_number 4 14 a in
    let name = columns_number 15 45 a in
    let code' = columns_number 4 14 b in
    let name' = columns_number 15 45 b in
    let t = two (eqb code code') (eqb code name') (has code rest) (eqb name code') (eqb name name') (has name rest) e in
    (rw (differ _ _ t.0, differ _ _ t.1), t.2)
apart Country a b rest e = let t = one _ _ e in (differ _ _ t.0, t.1)
apart Trnsmode a b rest e = let t = one _ _ e in (differ _ _ t.0, t.1)
apart Stations a b rest e = (refl, refl)

-- NUMBERS THAT WERE COMPUTED, asked for and marked
pub not_one : (numbers : List ℕ) (a n : ℕ) → n ≡ a → has n numbers ≡ false → some_in numbers (a ∷ []) ≡ false
unfolding any
not_one numbers a n e h = rw (← e, h)

pub neither : (numbers : List ℕ) (a b n m : ℕ) → n ≡ a → m ≡ b → has n numbers ≡ false → has m numbers ≡ false → some_in numbers (a ∷ b ∷ []) ≡ false
unfolding any
neither numbers a b n m e f h k = rw (← e, h, ← f, k)

pub one_marked : (marks numbers is : List ℕ) (a n : ℕ) → is ≡ with_marks marks n → n ≡ a → Marked marks numbers → Marked is (numbers ++ (a ∷ []))
one_marked marks numbers is a n e f m = rw (e, ← f) (marked_next marks numbers n m)

pub both_marked : (marks numbers once is : List ℕ) (a b n k : ℕ) → once ≡ with_marks marks n → n ≡ a → is ≡ with_marks once k → k ≡ b
    → Marked marks numbers → Marked is (numbers ++ (a ∷ b ∷ []))
both_marked marks numbers once is a b n k e f g h m =
    subst (Marked is) (append_assoc numbers (a ∷ []) (b ∷ []))
    (one_marked once (numbers ++ (a ∷ [])) is b k g h (one_marked marks numbers once a n e f m))

-- A LINE of whose numbers none came has new texts
none_shared : (f : RowFile) (l : Line) (ls : List Line) → some_in (numbers_of f ls) (text_numbers f l.body) ≡ false
    → any (λ e. any (same_text l e) (unique_texts f)) ls ≡ false
unfolding any numbers_of
none_shared f l [] e = refl
none_shared f l (m ∷ ls) e =
    let t = apart f l.body m.body (numbers_of f ls) e in
    rw (shares f l m, t.0) (none_shared f l ls t.1)

pub new_texts : (f : RowFile) (ls : List Line) (l : Line) → some_in (numbers_of f ls) (text_numbers f l.body) ≡ false → true ≡ fresh_texts f ls l
unfolding fresh_texts
new_texts f ls l e = rw (none_shared f l ls e)

-- ONE LINE MORE
pub numbers_next : (f : RowFile) (ls : List Line) (l : Line) → numbers_of f (ls ++ (l ∷ [])) ≡ numbers_of f ls ++ text_numbers f l.body
unfolding numbers_of
numbers_next f [] l = append-nil (text_numbers f l.body)
numbers_next f (m ∷ ls) l = rw (numbers_next f ls l, append_assoc)
