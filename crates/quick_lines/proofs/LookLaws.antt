-- Laws of a look at some columns: what is right is a column and a figure, and no CR, so that the first CR LF is the one behind them. Assumes nothing.
use Prim.Native.Nat.{ℕ, suc, ◌+◌, ◌-◌, ◌≤◌, ◌<◌}
use mathlib.Core.Path.{◌≡◌, refl, ap, ◌∙◌}
use mathlib.Core.List.{List, [], ◌∷◌}
use mathlib.Core.Bool.{Bool, true, false, ◌&&◌, cond, false≢true}
use native.Mathlib.Omega.{arith}
use lib.Dec.{eqb, leb}
use lib.ListN.{length, get_or, take, drop, length-drop}
use lib.Seq.{get_or-drop, drop-drop}
use borrow.Author.Tests.{eqb-true, ne_eqb, lt-ltb, leb-true, le-leb}
use Rattle.std.specs.List.{list_all, zip}
use Rattle.iff.specs.Bytes.{cr, comma, allowed, digit}
use Rattle.iff.specs.Lists.{all2}
use Rattle.iff.specs.Lines.{crlf, width}
use Rattle.iff.specs.Columns.{column, figure, fits, figures}
use Rattle.text.proofs.LineLaws.{lines_step}
use Rattle.text.proofs.PictureLaws.{and_left, and_right}
use Rattle.quick_lines.specs.Pictures.{right, columns_at, Pictured}

-- ONE BYTE
digit_allowed : (b : ℕ) → digit b ≡ true → allowed b ≡ true
unfolding digit allowed
digit_allowed b e =
    let l : 48 ≤ b = leb-true _ _ (and_left (leb 48 b) _ e) in
    let h : b ≤ 57 = leb-true _ _ (and_right (leb 48 b) _ e) in
    rw (le-leb 32 b (omega arith), le-leb b 126 (omega arith))

allowed_no_cr : (b : ℕ) → allowed b ≡ true → eqb b cr ≡ false
unfolding allowed
allowed_no_cr b e = ne_eqb b cr (λ z. false≢true (rw z at e))

-- what a right byte is, by its mark
pub record Both (b p : ℕ) : Type 0 where
  pub placed : column b p ≡ true
  pub counted : figure b p ≡ true
  pub plain : eqb b cr ≡ false

both : (b p : ℕ) → right b p ≡ true → Both b p
unfolding right column figure
both b p e = go (eqb p comma) refl (eqb p 110) refl (eqb p 109) refl e
  where
    go : (x : Bool) → eqb p comma ≡ x → (y : Bool) → eqb p 110 ≡ y → (z : Bool) → eqb p 109 ≡ z
        → cond x (eqb b comma) (cond y (digit b) (cond z false (allowed b))) ≡ true → Both b p
    go true i y j z k f =
        let q : b ≡ comma = eqb-true _ _ f in
        let m : p ≡ comma = eqb-true _ _ i in
        rw (q, m) (record { placed = refl; counted = refl; plain = refl })
    go false i true j z k f =
        let a = digit_allowed b f in
        record { placed = rw (i, a); counted = rw (j, f); plain = allowed_no_cr b a }
    go false i false j true k f = absurd (false≢true f)
    go false i false j false k f = record { placed = rw (i, f); counted = rw (j, k); plain = allowed_no_cr b f }

-- SOME BYTES
all_placed : (s pic : List ℕ) → all2 right s pic ≡ true → fits s pic ≡ true
unfolding all2
all_placed [] [] e = refl
all_placed [] (p ∷ pic) e = absurd (false≢true e)
all_placed (b ∷ s) [] e = absurd (false≢true e)
all_placed (b ∷ s) (p ∷ pic) e =
    rw ((both b p (and_left (right b p) _ e)).placed, all_placed s pic (and_right (right b p) _ e))

all_counted : (s pic : List ℕ) → all2 right s pic ≡ true → figures s pic ≡ true
unfolding all2
all_counted [] [] e = refl
all_counted [] (p ∷ pic) e = absurd (false≢true e)
all_counted (b ∷ s) [] e = absurd (false≢true e)
all_counted (b ∷ s) (p ∷ pic) e =
    rw ((both b p (and_left (right b p) _ e)).counted, all_counted s pic (and_right (right b p) _ e))

-- all pairs of columns and marks
pub all_pairs : (s pic : List ℕ) → length s ≡ length pic → list_all (λ (p : ℕ × ℕ). right p.0 p.1) (zip s pic) ≡ all2 right s pic
unfolding all2
all_pairs [] [] e = refl
all_pairs [] (p ∷ pic) e = absurd (omega arith)
all_pairs (b ∷ s) [] e = absurd (omega arith)
all_pairs (b ∷ s) (p ∷ pic) e = ap (λ x. right b p && x) (all_pairs s pic (omega arith))

-- the first CR LF stands behind bytes that are right
first_end : (s pic : List ℕ) → all2 right (take (length pic) s) pic ≡ true → length pic < length s
    → crlf (get_or s (length pic) 0) (get_or s (suc (length pic)) 0) ≡ true → width s ≡ length pic
unfolding all2 width
first_end [] pic e h c = absurd (omega arith)
first_end (b ∷ s) [] e h c = rw c
first_end (b ∷ s) (p ∷ pic) e h c =
    rw ((both b p (and_left (right b p) _ e)).plain, first_end s pic (and_right (right b p) _ e) (omega arith) c)

-- A LOOK at the columns up to `end`
pub pictured : (t : List ℕ) (at end : ℕ) (pic : List ℕ) → at ≤ length t → 2 ≤ length t - at - length pic → end ≡ at + length pic
    → crlf (get_or t end 0) (get_or t (end + 1) 0) ≡ true → all2 right (take (end - at) (drop at t)) pic ≡ true → Pictured t at pic
pictured t at end pic g h z c e =
    let n : length (drop at t) ≡ length t - at = length-drop at t in
    let a : length pic < length (drop at t) = omega arith in
    let v : end - at ≡ length pic = omega arith in
    let i : at + suc (length pic) ≡ end + 1 = omega arith in
    let d : all2 right (columns_at t at (length pic)) pic ≡ true = rw v at e in
    let w : width (drop at t) ≡ length pic = first_end (drop at t) pic d a (rw (get_or-drop, get_or-drop, i, ← z) c) in
    let k : at + (length pic + 2) ≡ at + length pic + 2 = omega arith in
    record {
      room = omega arith;
      head = lines_step (drop at t) (omega arith) ∙ rw (w, drop-drop, k, lt-ltb _ _ a);
      fitting = all_placed (columns_at t at (length pic)) pic d;
      figured = all_counted (columns_at t at (length pic)) pic d;
    }
