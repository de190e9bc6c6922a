-- What is not marked has not come. Assumes nothing.
use Prim.Native.Nat.{ℕ, ◌+◌, ◌*◌, ◌^◌, ◌<◌}
use mathlib.Core.Path.{◌≡◌, refl, ap, sym, ◌∙◌}
use mathlib.Core.List.{List, [], ◌∷◌, ◌++◌, map}
use mathlib.Core.Bool.{Bool, true, false, ◌||◌, not, false≢true}
use native.Mathlib.Omega.{arith}
use borrow.Author.Tests.{eqb-true, eq-eqb}
use lib.Dec.{eqb}
use lib.ListN.{length}
use Rattle.iff.specs.Lists.{any, has}
use Rattle.iff.specs.declared.RowFile.{RowFile}
use Rattle.marks.specs.Marks.{slots, with_marks, Marked}
use Rattle.marks.proofs.MarkLaws.{marked_next, still_marked}
use Rattle.text_numbers.specs.Numbers.{text_numbers}
use Rattle.row_marks.specs.Remembered.{spread_of, LineMarked}

-- a key's two halves, each times its factor, fit a word
pub halves_fit : (low high : ℕ) → low < 4294967296 → high < 4294967296 → low * 2654435761 + high * 1597334677 < 2 ^ 64
halves_fit low high h k = omega arith

-- A KEY whose number did not come has not come
number_came : (g : ℕ → ℕ) (keys : List ℕ) (k : ℕ) → has k keys ≡ true → has (g k) (map g keys) ≡ true
unfolding any
number_came g [] k e = e
number_came g (x ∷ keys) k e = go (eqb k x) refl e (number_came g keys k)
  where
    go : (b : Bool) → eqb k x ≡ b → (b || has k keys) ≡ true → (has k keys ≡ true → has (g k) (map g keys) ≡ true)
        → (eqb (g k) (g x) || has (g k) (map g keys)) ≡ true
    go true q e ih = rw (eq-eqb (g k) (g x) (ap g (eqb-true k x q)))
    go false q e ih = second (eqb (g k) (g x)) (has (g k) (map g keys)) (ih e)
      where
        second : (a b : Bool) → b ≡ true → (a || b) ≡ true
        second true b e = refl
        second false b e = e

pub new_key : (keys : List ℕ) (k n : ℕ) → n ≡ spread_of k → has n (map spread_of keys) ≡ false → true ≡ not (has k keys)
new_key keys k n e f = go (has k keys) refl
  where
    go : (b : Bool) → has k keys ≡ b → true ≡ not b
    go true q = absurd (false≢true (sym f ∙ rw e (number_came spread_of keys k q)))
    go false q = refl

-- FEWER NUMBERS are marked too
has_front : (k : ℕ) (ns more : List ℕ) → has k ns ≡ true → has k (ns ++ more) ≡ true
unfolding any
has_front k [] more e = absurd (false≢true e)
has_front k (n ∷ ns) more e = go (eqb k n) e (has_front k ns more)
  where
    go : (b : Bool) → (b || has k ns) ≡ true → (has k ns ≡ true → has k (ns ++ more) ≡ true) → (b || has k (ns ++ more)) ≡ true
    go true e ih = refl
    go false e ih = ih e

fewer : (marks ns more : List ℕ) → Marked marks (ns ++ more) → Marked marks ns
fewer marks ns more m =
    record {
      wide = m.wide;
      one = λ k e. m.one k (has_front k ns more e);
      other = λ k e. m.other k (has_front k ns more e);
    }

-- A LINE MARKED
pub nothing_marked : (f : RowFile) (line : List ℕ) (key : ℕ) (was : List ℕ) → (length was ≡ slots → ⊥) → LineMarked f line key was was
nothing_marked f line key was q = record { keys = λ ns m e. absurd (q e); texts = λ ns m e. absurd (q e) }

module _ (f : RowFile) (line : List ℕ) (key : ℕ) (was once is : List ℕ) (n : ℕ) (wide : length was ≡ slots) (e : n ≡ spread_of key)
    (o : once ≡ with_marks was n) (t : (ns : List ℕ) → Marked once ns → Marked is (ns ++ text_numbers f line)) where
  pub line_marked : LineMarked f line key was is
  line_marked =
      record {
        keys = λ ns m q.
            let more = ns ++ (spread_of key ∷ []) in
            fewer is more (text_numbers f line) (t more (rw (o, ← e) (marked_next was ns n (m wide))));
        texts = λ ns m q. t ns (rw o (still_marked was ns n (m wide)));
      }
