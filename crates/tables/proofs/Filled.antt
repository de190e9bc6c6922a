-- A table that was filled with rows holds those rows, over any width. Laws of the definitions alone. Assumes nothing.
use Prim.Native.Nat.{ℕ, zero, suc, ◌+◌, ◌-◌, ◌*◌, ◌/◌, ◌≤◌, ◌<◌}
use mathlib.Core.Path.{◌≡◌, refl, ap, sym, ◌∙◌}
use mathlib.Core.List.{List, [], ◌∷◌, ◌++◌, append_assoc, append-nil}
use mathlib.Core.Bool.{Bool, true, false, cond, ◌&&◌, false≢true}
use native.Mathlib.Nat.{suc-mul, zero-mul, sub-zero, le-div_iff_mul-le}
use native.Mathlib.Omega.{arith}
use native.Mathlib.Numerals.{add-one}
use borrow.Author.Tests.{eqb-true}
use lib.Dec.{eqb}
use lib.ListN.{length, get_or, take, drop, replicate, length-append, length-replicate, length-drop, take-append-drop, get_or-append}
use lib.Seq.{take_at, drop_at, take-add, drop-drop}
use Rattle.iff.specs.Lists.{all}
use Rattle.iff.specs.Tables.{Row, tag, row_at, put_row, joined, fill, rows_up_to, rows_of_width, all_zero}
use Rattle.tables.proofs.Each.{Each}
use Rattle.tables.proofs.Rows.{Used, row_is}

pub joined_append : (rs qs : List Row) → joined (rs ++ qs) ≡ joined rs ++ joined qs
unfolding joined
joined_append [] qs = refl
joined_append (r ∷ rs) qs = rw (joined_append rs qs, append_assoc)

pub drop_replicate : (a n x : ℕ) → drop a (replicate n x) ≡ replicate (n - a) x
drop_replicate zero n x = rw sub-zero
drop_replicate (suc a) zero x =
    let e : 0 - suc a ≡ 0 = omega arith in
    rw e
drop_replicate (suc a) (suc n) x =
    let e : suc n - suc a ≡ n - a = omega arith in
    rw e (drop_replicate a n x)

-- zeros are all zero, and nothing else is
pub zeros_all : (n : ℕ) → all_zero (replicate n 0) ≡ true
unfolding all
zeros_all zero = refl
zeros_all (suc n) = zeros_all n

pub all_zeros : (t : List ℕ) → all_zero t ≡ true → t ≡ replicate (length t) 0
unfolding all
all_zeros [] e = refl
all_zeros (x ∷ t) e = go (eqb 0 x) refl e (all_zeros t)
  where
    go : (b : Bool) → eqb 0 x ≡ b → (b && all_zero t) ≡ true → (all_zero t ≡ true → t ≡ replicate (length t) 0) → x ∷ t ≡ 0 ∷ replicate (length t) 0
    go true q f ih =
        let z : 0 ≡ x = eqb-true 0 x q in
        rw (← z) (ap (λ (l : List ℕ). 0 ∷ l) (ih f))
    go false q f ih = absurd (false≢true f)

-- a table with no rows
pub fill_none : (w n : ℕ) → fill w n [] ≡ replicate n 0
unfolding fill joined
fill_none w n = rw (zero-mul, sub-zero)

module _ (w : ℕ) where
  pub length_joined : (rs : List Row) → Each (Used w) rs → length (joined rs) ≡ length rs * w
  unfolding joined
  length_joined [] u = rw zero-mul
  length_joined (r ∷ rs) u = rw (length-append, suc-mul) (omega (arith, u.0.0, length_joined rs u.1))

  pub length_fill : (n : ℕ) (rs : List Row) → Each (Used w) rs → length rs * w ≤ n → length (fill w n rs) ≡ n
  unfolding fill
  length_fill n rs u h = rw (length-append, length-replicate, length_joined rs u) (omega arith)

module _ (w : ℕ) (s : 0 < w) where
  rows_joined : (m j : ℕ) (rs : List Row) → Each (Used w) rs → length rs ≤ m → rows_up_to w m (joined rs ++ replicate j 0) ≡ rs
  unfolding rows_up_to joined
  rows_joined zero j [] u h = refl
  rows_joined zero j (r ∷ rs) u h = absurd (omega arith)
  rows_joined (suc m) zero [] u h = refl
  rows_joined (suc m) (suc j) [] u h = refl
  rows_joined (suc m) j (r ∷ rs) u h =
      let z : get_or (r ++ (joined rs ++ replicate j 0)) 0 0 ≡ tag r = get_or-append r _ 0 0 (omega (arith, u.0.0)) in
      rw (
        append_assoc,
        z,
        u.0.1,
        take_at r (joined rs ++ replicate j 0) w u.0.0,
        drop_at r (joined rs ++ replicate j 0) w u.0.0,
        rows_joined m j rs u.1 (omega arith),
      )

  -- the rows of a filled table are those that it was filled with
  pub rows_in_fill : (n : ℕ) (rs : List Row) → Each (Used w) rs → length rs * w ≤ n → rows_of_width w (fill w n rs) ≡ rs
  unfolding fill
  rows_in_fill n rs u h =
      let room : length rs ≤ n / w = (le-div_iff_mul-le s).1 h in
      rows_joined (length (fill w n rs) / w) (n - length rs * w) rs u (rw length_fill room)

  pub row_in_fill : (n : ℕ) (rs : List Row) → Each (Used w) rs → length rs * w ≤ n → (i : ℕ) → i < length rs → row_at w (fill w n rs) i ≡ get_or rs i []
  row_in_fill n rs u h i g =
      let e = rows_in_fill n rs u h in
      sym (row_is w (length (fill w n rs) / w) (fill w n rs) i (rw e g)) ∙ ap (λ (l : List Row). get_or l i []) e

module _ (w n : ℕ) (rs : List Row) (u : Each (Used w) rs) where
  -- behind its rows it is zero
  pub fill_behind : drop (length rs * w) (fill w n rs) ≡ replicate (n - length rs * w) 0
  unfolding fill
  fill_behind = drop_at (joined rs) (replicate (n - length rs * w) 0) (length rs * w) (length_joined w rs u)

  pub fill_front : take (length rs * w) (fill w n rs) ≡ joined rs
  unfolding fill
  fill_front = take_at (joined rs) (replicate (n - length rs * w) 0) (length rs * w) (length_joined w rs u)

  with_one_more : (r : Row) → fill w n (rs ++ r ∷ []) ≡ joined rs ++ (r ++ replicate (n - (length rs * w + w)) 0)
  unfolding fill joined
  with_one_more r =
      let e : length (rs ++ r ∷ []) * w ≡ length rs * w + w = rw (length-append, add-one, suc-mul) in
      rw (joined_append, e, append-nil, append_assoc)

  -- the next row put into it
  pub fill_next : (r : Row) → put_row w (fill w n rs) (length rs) r ≡ fill w n (rs ++ r ∷ [])
  unfolding put_row
  fill_next r =
      let z : n - length rs * w - w ≡ n - (length rs * w + w) = omega arith in
      rw (fill_front, ← drop-drop, fill_behind, drop_replicate, z) (sym (with_one_more r))

-- the words of a table's rows are its first words
pub joined_rows : (w m : ℕ) (t : List ℕ) → joined (rows_up_to w m t) ≡ take (length (rows_up_to w m t) * w) t
unfolding rows_up_to joined
joined_rows w zero t = rw zero-mul
joined_rows w (suc m) t = go (eqb (get_or t 0 0) 0) (joined_rows w m (drop w t))
  where
    go : (b : Bool) → joined (rows_up_to w m (drop w t)) ≡ take (length (rows_up_to w m (drop w t)) * w) (drop w t)
        → joined (cond b [] (take w t ∷ rows_up_to w m (drop w t)))
        ≡ take (length (cond b [] (take w t ∷ rows_up_to w m (drop w t))) * w) t
    go true e = rw zero-mul
    go false e =
        let k : suc (length (rows_up_to w m (drop w t))) * w ≡ w + length (rows_up_to w m (drop w t)) * w = rw suc-mul (omega arith) in
        rw (k, take-add w (length (rows_up_to w m (drop w t)) * w) t, e)

-- a table that is zero behind its rows is those rows and zeros
pub table_of_rows : (w : ℕ) (t : List ℕ) → all_zero (drop (length (rows_of_width w t) * w) t) ≡ true → t ≡ fill w (length t) (rows_of_width w t)
unfolding fill
table_of_rows w t z =
    sym (take-append-drop (length (rows_of_width w t) * w) t)
    ∙ rw (joined_rows, ← (length-drop (length (rows_of_width w t) * w) t), ← (all_zeros (drop (length (rows_of_width w t) * w) t) z))
