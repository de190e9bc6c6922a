-- The rows of a table, over any width: which they are, and how many. Laws of the definitions alone. Assumes nothing.
use Prim.Native.Nat.{ℕ, zero, suc, ◌+◌, ◌-◌, ◌*◌, ◌/◌, ◌≤◌, ◌<◌}
use mathlib.Core.Path.{◌≡◌, refl, ap, ◌∙◌}
use mathlib.Core.List.{List, [], ◌∷◌}
use mathlib.Core.Bool.{Bool, true, false, cond}
use native.Mathlib.Nat.{add-mul, suc-mul, zero-mul, sub-zero, mul-le-mul_right, div-mul-le_self}
use native.Mathlib.Omega.{arith}
use native.Mathlib.Numerals.{add-one}
use lib.Dec.{eqb}
use lib.ListN.{length, get_or, take, drop, length-drop}
use lib.Seq.{drop-drop, length-take-le, get_or-take, get_or-drop}
use Rattle.iff.specs.Tables.{Row, word, tag, row_at, rows_up_to, rows_of_width}
use Rattle.tables.proofs.Each.{Each}

-- where the next row starts
pub next_row_lem : (w i : ℕ) → (i + 1) * w ≡ i * w + w
next_row_lem w i = rw (add-one, suc-mul)

-- one of n rows is in a table that has them all
pub row_inside : (w i n m : ℕ) → i < n → n * w ≤ m → i * w + w ≤ m
row_inside w i n m h r = omega (arith, rw suc-mul at (mul-le-mul_right w h))

-- and one of those that there is room for
pub row_in_table : (w i m : ℕ) → i < m / w → i * w + w ≤ m
row_in_table w i m h = row_inside w i (m / w) m h (div-mul-le_self m w)

-- a word of a row is a word of the table
pub word_of_row : (w : ℕ) (t : List ℕ) (i k : ℕ) → k < w → word (row_at w t i) k ≡ get_or t (i * w + k) 0
word_of_row w t i k h = rw (get_or-take, get_or-drop)

-- row i + j is row j of the words from row i on
pub row_behind : (w : ℕ) (t : List ℕ) (i j : ℕ) → row_at w (drop (i * w) t) j ≡ row_at w t (i + j)
row_behind w t i j = rw (drop-drop, ← add-mul)

-- a row in use: its first word is not 0
abbrev pub Used : ℕ → Row → Type 0
Used w r = (length r ≡ w) × (eqb (tag r) 0 ≡ false)

-- the rows of a table with room for one at least, by whether its first is unused
abbrev either : ℕ → List ℕ → List Row → Bool → List Row
either w t rs b = cond b [] (take w t ∷ rs)

module _ (w : ℕ) where
  -- no more rows than there is room for
  pub rows_most : (n : ℕ) (t : List ℕ) → length (rows_up_to w n t) ≤ n
  unfolding rows_up_to
  rows_most zero t = omega arith
  rows_most (suc n) t = go (eqb (get_or t 0 0) 0) (rows_most n (drop w t))
    where
      go : (b : Bool) → length (rows_up_to w n (drop w t)) ≤ n → length (either w t (rows_up_to w n (drop w t)) b) ≤ suc n
      go true h = omega arith
      go false h = omega arith

  past_one : (t : List ℕ) (j : ℕ) → drop (j * w) (drop w t) ≡ drop (suc j * w) t
  past_one t j =
      let e : suc j * w ≡ w + j * w = rw suc-mul (omega arith) in
      rw (drop-drop, e)

  -- row j of them is row j of the table
  pub row_is : (n : ℕ) (t : List ℕ) (j : ℕ) → j < length (rows_up_to w n t) → get_or (rows_up_to w n t) j [] ≡ row_at w t j
  unfolding rows_up_to
  row_is zero t j h = absurd (omega arith)
  row_is (suc n) t j h = go (eqb (get_or t 0 0) 0) j h (row_is n (drop w t))
    where
      go : (b : Bool) (j : ℕ) → j < length (either w t (rows_up_to w n (drop w t)) b)
          → ((k : ℕ) → k < length (rows_up_to w n (drop w t)) → get_or (rows_up_to w n (drop w t)) k [] ≡ row_at w (drop w t) k)
          → get_or (either w t (rows_up_to w n (drop w t)) b) j [] ≡ row_at w t j
      go true j h ih = absurd (omega arith)
      go false zero h ih = rw zero-mul
      go false (suc j) h ih = ih j (omega arith) ∙ ap (take w) (past_one t j)

  -- the rows from i on are those of the table's words from there on
  pub rows_from_lem : (n : ℕ) (t : List ℕ) (i : ℕ) → i ≤ length (rows_up_to w n t) → rows_up_to w (n - i) (drop (i * w) t) ≡ drop i (rows_up_to w n t)
  unfolding rows_up_to
  rows_from_lem n t zero h = rw (zero-mul, sub-zero)
  rows_from_lem zero t (suc i) h = absurd (omega arith)
  rows_from_lem (suc n) t (suc i) h = go (eqb (get_or t 0 0) 0) h (rows_from_lem n (drop w t) i)
    where
      go : (b : Bool) → suc i ≤ length (either w t (rows_up_to w n (drop w t)) b)
          → (i ≤ length (rows_up_to w n (drop w t)) → rows_up_to w (n - i) (drop (i * w) (drop w t)) ≡ drop i (rows_up_to w n (drop w t)))
          → rows_up_to w (suc n - suc i) (drop (suc i * w) t) ≡ drop (suc i) (either w t (rows_up_to w n (drop w t)) b)
      go true h ih = absurd (omega arith)
      go false h ih =
          let e : suc n - suc i ≡ n - i = omega arith in
          rw (e, ← (past_one t i)) (ih (omega arith))

  -- where there is room for fewer, they are the first of them
  pub rows_fewer : (n m : ℕ) (t : List ℕ) → m ≤ n → rows_up_to w m t ≡ take m (rows_up_to w n t)
  unfolding rows_up_to
  rows_fewer n zero t h = refl
  rows_fewer zero (suc m) t h = absurd (omega arith)
  rows_fewer (suc n) (suc m) t h = go (eqb (get_or t 0 0) 0) (rows_fewer n m (drop w t) (omega arith))
    where
      go : (b : Bool) → rows_up_to w m (drop w t) ≡ take m (rows_up_to w n (drop w t))
          → either w t (rows_up_to w m (drop w t)) b ≡ take (suc m) (either w t (rows_up_to w n (drop w t)) b)
      go true e = refl
      go false e = ap (λ (l : List Row). take w t ∷ l) e

  -- the rows from i on and before j
  pub rows_between_lem : (n : ℕ) (t : List ℕ) (i j : ℕ) → i ≤ length (rows_up_to w n t) → j ≤ n
      → rows_up_to w (j - i) (drop (i * w) t) ≡ take (j - i) (drop i (rows_up_to w n t))
  rows_between_lem n t i j h g = rows_fewer (n - i) (j - i) (drop (i * w) t) (omega arith) ∙ ap (take (j - i)) (rows_from_lem n t i h)

module _ (w : ℕ) (s : 0 < w) where
  -- each row that is found is in use
  pub rows_used : (n : ℕ) (t : List ℕ) → n * w ≤ length t → Each (Used w) (rows_up_to w n t)
  unfolding rows_up_to
  rows_used zero t h = tt
  rows_used (suc n) t h =
      let f : n * w + w ≤ length t = rw suc-mul at h in
      go (eqb (get_or t 0 0) 0) refl (omega arith) (rows_used n (drop w t) (rw length-drop (omega arith)))
    where
      go : (b : Bool) → eqb (get_or t 0 0) 0 ≡ b → w ≤ length t → Each (Used w) (rows_up_to w n (drop w t))
          → Each (Used w) (either w t (rows_up_to w n (drop w t)) b)
      go true e f u = tt
      go false e f u = ((length-take-le w t f, rw get_or-take e), u)

  pub table_rows_used : (t : List ℕ) → Each (Used w) (rows_of_width w t)
  table_rows_used t = rows_used (length t / w) t (div-mul-le_self (length t) w)
