-- Laws of marks. Assumes nothing.
use Prim.Native.Nat.{ℕ, zero, suc, ◌<◌}
use mathlib.Core.Path.{◌≡◌, refl, sym, ◌∙◌}
use mathlib.Core.List.{List, [], ◌∷◌, ◌++◌}
use mathlib.Core.Bool.{Bool, true, false, ◌||◌, cond, false≢true}
use native.Mathlib.Omega.{arith}
use borrow.Author.Tests.{eqb-true, eq-eqb, ne_eqb}
use lib.Dec.{eqb}
use lib.ListN.{length, get_or, set, replicate, length-set, length-replicate}
use Rattle.iff.specs.Lists.{any, has}
use Rattle.marks.specs.Marks.{slots, slot_of, other_of, print_of, other_print, several, mixed, shows, with_mark, with_marks, Marked}

-- before the first key there are no marks
pub none_marked : Marked (replicate slots 0) []
unfolding any
none_marked =
    record {
      wide = length-replicate {A = ℕ} slots 0;
      one = λ k e. absurd (false≢true e);
      other = λ k e. absurd (false≢true e);
    }

-- a key that lacks a mark that all keys have has not come
pub unmarked : (marks keys : List ℕ) (k at print : ℕ) → (has k keys ≡ true → shows (get_or marks at 0) print ≡ true)
    → shows (get_or marks at 0) print ≡ false → has k keys ≡ false
unmarked marks keys k at print m z = go (has k keys) refl
  where
    go : (b : Bool) → has k keys ≡ b → has k keys ≡ false
    go true e = absurd (false≢true (sym z ∙ m e))
    go false e = e

-- the same where the slot and the print were computed
pub not_shown : (marks keys : List ℕ) (k at print a p : ℕ) → a ≡ at → p ≡ print → (has k keys ≡ true → shows (get_or marks at 0) print ≡ true)
    → (r : Bool) → r ≡ shows (get_or marks a 0) p → r ≡ false → has k keys ≡ false
not_shown marks keys k at print a p i j m r e f = unmarked marks keys k at print m (rw (← i, ← j) (sym e ∙ f))

pub both_put : (marks : List ℕ) (k a p m b q n : ℕ) → a ≡ slot_of k → p ≡ print_of k → m ≡ mixed (get_or marks a 0) p
    → b ≡ other_of k → q ≡ other_print k → n ≡ mixed (get_or (set marks a m) b 0) q → set (set marks a m) b n ≡ with_marks marks k
both_put marks k a p m b q n e f g h i j = rw (j, g, e, f, h, i)

pub slot_inside : (k : ℕ) → slot_of k < slots
slot_inside k = omega arith

pub other_inside : (k : ℕ) → other_of k < slots
other_inside k = omega arith

or_true : (x : Bool) → (x || true) ≡ true
or_true true = refl
or_true false = refl

-- a print that is mixed in shows, and those that showed still do
mixed_shows : (was print : ℕ) → shows (mixed was print) print ≡ true
unfolding mixed shows
mixed_shows was print = go (eqb was 0) (eqb was print)
  where
    go : (a b : Bool) → (eqb (cond a print (cond b print several)) print || eqb (cond a print (cond b print several)) several) ≡ true
    go true b = rw (eq-eqb print print refl)
    go false true = rw (eq-eqb print print refl)
    go false false = or_true (eqb several print)

still_shows : (was print other : ℕ) → 0 < other → shows was other ≡ true → shows (mixed was print) other ≡ true
unfolding mixed shows
still_shows was print other h e = go (eqb was 0) refl (eqb was print) refl
  where
    go : (a : Bool) → eqb was 0 ≡ a → (b : Bool) → eqb was print ≡ b
        → (eqb (cond a print (cond b print several)) other || eqb (cond a print (cond b print several)) several) ≡ true
    go true i b j =
        let z : was ≡ 0 = eqb-true was 0 i in
        let n : eqb 0 other ≡ false = ne_eqb 0 other (λ q. omega arith) in
        absurd (false≢true (sym (rw n) ∙ (rw z at e)))
    go false i true j = rw (← (eqb-true was print j)) e
    go false i false j = or_true (eqb several other)

-- one mark more
marked_still : (marks : List ℕ) (i print j other : ℕ) → 0 < other → shows (get_or marks j 0) other ≡ true
    → shows (get_or (with_mark marks i print) j 0) other ≡ true
marked_still [] i print j other h e = e
marked_still (x ∷ m) zero print zero other h e = still_shows x print other h e
marked_still (x ∷ m) zero print (suc j) other h e = e
marked_still (x ∷ m) (suc i) print zero other h e = e
marked_still (x ∷ m) (suc i) print (suc j) other h e = marked_still m i print j other h e

marked_here : (marks : List ℕ) (i print : ℕ) → i < length marks → shows (get_or (with_mark marks i print) i 0) print ≡ true
marked_here [] i print h = absurd (omega arith)
marked_here (x ∷ m) zero print h = mixed_shows x print
marked_here (x ∷ m) (suc i) print h = marked_here m i print (omega arith)

last_one : (keys : List ℕ) (k j : ℕ) → has j (keys ++ (k ∷ [])) ≡ true → has j keys ≡ false → j ≡ k
unfolding any
last_one [] k j e f = go (eqb j k) refl e
  where
    go : (b : Bool) → eqb j k ≡ b → (b || false) ≡ true → j ≡ k
    go true q e = eqb-true j k q
    go false q e = absurd (false≢true e)
last_one (x ∷ keys) k j e f = go (eqb j x) e f (last_one keys k j)
  where
    go : (b : Bool) → (b || has j (keys ++ (k ∷ []))) ≡ true → (b || has j keys) ≡ false
        → (has j (keys ++ (k ∷ [])) ≡ true → has j keys ≡ false → j ≡ k) → j ≡ k
    go true e f ih = absurd (false≢true (sym f))
    go false e f ih = ih e f

-- marks of more harm none of those that are there
module _ (marks keys : List ℕ) (k : ℕ) (m : Marked marks keys) where
  abbrev with : List ℕ
  with = with_mark marks (slot_of k) (print_of k)

  pub still_marked : Marked (with_marks marks k) keys
  still_marked =
      record {
        wide =
            length-set with (other_of k) (mixed (get_or with (other_of k) 0) (other_print k))
            ∙ (length-set marks (slot_of k) (mixed (get_or marks (slot_of k) 0) (print_of k)) ∙ m.wide);
        one = λ j e. marked_still with (other_of k) (other_print k) (slot_of j) (print_of j) (omega arith)
            (marked_still marks (slot_of k) (print_of k) (slot_of j) (print_of j) (omega arith) (m.one j e));
        other = λ j e. marked_still with (other_of k) (other_print k) (other_of j) (other_print j) (omega arith)
            (marked_still marks (slot_of k) (print_of k) (other_of j) (other_print j) (omega arith) (m.other j e));
      }

-- one key more, and its marks
module _ (marks keys : List ℕ) (k : ℕ) (m : Marked marks keys) where
  abbrev once : List ℕ
  once = with_mark marks (slot_of k) (print_of k)

  once_wide : length once ≡ slots
  once_wide = length-set marks (slot_of k) (mixed (get_or marks (slot_of k) 0) (print_of k)) ∙ m.wide

  one_next : (j : ℕ) → has j (keys ++ (k ∷ [])) ≡ true → (b : Bool) → has j keys ≡ b
      → shows (get_or (with_mark once (other_of k) (other_print k)) (slot_of j) 0) (print_of j) ≡ true
  one_next j e true q =
      marked_still once (other_of k) (other_print k) (slot_of j) (print_of j) (omega arith)
      (marked_still marks (slot_of k) (print_of k) (slot_of j) (print_of j) (omega arith) (m.one j q))
  one_next j e false q =
      rw (last_one keys k j e q)
      (marked_still once (other_of k) (other_print k) (slot_of k) (print_of k) (omega arith)
      (marked_here marks (slot_of k) (print_of k) (omega (arith, m.wide, slot_inside k))))

  other_next : (j : ℕ) → has j (keys ++ (k ∷ [])) ≡ true → (b : Bool) → has j keys ≡ b
      → shows (get_or (with_mark once (other_of k) (other_print k)) (other_of j) 0) (other_print j) ≡ true
  other_next j e true q =
      marked_still once (other_of k) (other_print k) (other_of j) (other_print j) (omega arith)
      (marked_still marks (slot_of k) (print_of k) (other_of j) (other_print j) (omega arith) (m.other j q))
  other_next j e false q =
      rw (last_one keys k j e q)
      (marked_here once (other_of k) (other_print k) (omega (arith, once_wide, other_inside k)))

  pub marked_next : Marked (with_marks marks k) (keys ++ (k ∷ []))
  marked_next =
      record {
        wide = length-set once (other_of k) (mixed (get_or once (other_of k) 0) (other_print k)) ∙ once_wide;
        one = λ j e. one_next j e (has j keys) refl;
        other = λ j e. other_next j e (has j keys) refl;
      }
