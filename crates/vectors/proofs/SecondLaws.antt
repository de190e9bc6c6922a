-- The second row of a group by its part of a table, and the words beyond a row. Assumes nothing.
use Rattle.std.specs.Prelude.{None, Option, Some}
use Prim.Native.Nat.{ℕ, zero, suc, ◌+◌, ◌-◌, ◌*◌, ◌≤◌, ◌<◌}
use mathlib.Core.Path.{◌≡◌, refl, ap, sym, ◌∙◌}
use mathlib.Core.List.{List, [], ◌∷◌}
use mathlib.Core.Bool.{Bool, true, false, cond}
use native.Mathlib.Omega.{arith}
use native.Mathlib.Numerals.{add-one}
use borrow.Author.Tests.{ltb-true, ltb-false}
use lib.Dec.{ltb}
use lib.ListN.{length, get_or, take, drop}
use Rattle.iff.specs.Tables.{Row, word, row_width, rows_in}
use Rattle.iff.specs.declared.File.{File}
use Rattle.iff_desk.specs.Store.{group_of}
use Rattle.tables.proofs.Rows.{row_inside}
use Rattle.keys.specs.Blocks.{rows_between}
use Rattle.walks.proofs.GroupLaws.{between_none, between_first}
use Rattle.store.specs.Found.{row_or, Stands, GroupAt}
use Rattle.store.specs.declared.Part.{Part}
use Rattle.vectors.specs.Second.{second_of}

-- beyond a row's words there is nothing
beyond : (w : ℕ) (l : List ℕ) (k : ℕ) → w ≤ k → 0 ≡ get_or (take w l) k 0
beyond zero l k h = refl
beyond (suc w) [] k h = refl
beyond (suc w) (x ∷ l) zero h = absurd (omega arith)
beyond (suc w) (x ∷ l) (suc k) h = beyond w l k (omega arith)

pub word_beyond : (w : ℕ) (t : List ℕ) (o : Option ℕ) (k : ℕ) → w ≤ k → 0 ≡ word (row_or w t o) k
word_beyond w t (Some i) k h = beyond w (drop (i * w) t) k h
word_beyond w t None k h = refl

-- one row or none has no second
no_second : (w : ℕ) (t : List ℕ) (from to : ℕ) → to - from ≤ 1 → get_or (rows_between w t from to) 1 [] ≡ []
no_second w t from to h = go (ltb from to) refl
  where
    go : (b : Bool) → ltb from to ≡ b → get_or (rows_between w t from to) 1 [] ≡ []
    go true q = rw (between_first w t from to (ltb-true from to q), between_none w t (suc from) to (omega (arith, ltb-true from to q)))
    go false q = rw (between_none w t from to (ltb-false from to q))

-- THE SECOND ROW of a group
module _ (f : File) (used : ℕ) (t : List ℕ) (key : ℕ) (p : Part) (g : GroupAt f used t key p) where
  pub second_stands : (w : ℕ) → w ≡ row_width f → (o : Option ℕ) → o ≡ second_of p → Stands w t o
  second_stands w v o e i q = go (ltb 1 (p.to - p.from)) refl (sym q ∙ e)
    where
      go : (b : Bool) → ltb 1 (p.to - p.from) ≡ b → Some i ≡ cond b (Some (p.from + 1)) None → i * w + w ≤ length t
      go true y z =
          let n : i ≡ p.from + 1 = cc in
          row_inside w i p.to (length t) (omega (arith, ltb-true 1 (p.to - p.from) y)) (rw v g.inside.fits)
      go false y z = let n : ◌≡◌ {A = ℕ} 0 1 = cc in absurd (omega arith)

  pub second_is : get_or (group_of key (rows_in f t)) 1 [] ≡ row_or (row_width f) t (second_of p)
  second_is = ap (λ (rs : List Row). get_or rs 1 []) g.is ∙ go (ltb 1 (p.to - p.from)) refl
    where
      go : (b : Bool) → ltb 1 (p.to - p.from) ≡ b
          → get_or (rows_between (row_width f) t p.from p.to) 1 [] ≡ row_or (row_width f) t (cond b (Some (p.from + 1)) None)
      go true y =
          let l : 1 < p.to - p.from = ltb-true _ _ y in
          rw (
            between_first (row_width f) t p.from p.to (omega arith),
            between_first (row_width f) t (suc p.from) p.to (omega arith),
            add-one,
          )
      go false y =
          no_second (row_width f) t p.from p.to (ltb-false _ _ y)
