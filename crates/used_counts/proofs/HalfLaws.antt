-- Which side of the last row in use a row is on. Assumes nothing.
use Prim.Native.Nat.{ℕ, zero, suc, ◌+◌, ◌-◌, ◌*◌, ◌/◌, ◌≤◌, ◌<◌}
use native.Mathlib.Nat.{mul-le-mul_right}
use mathlib.Core.Path.{◌≡◌, refl, sym, ap, ◌∙◌}
use mathlib.Core.List.{List, [], ◌∷◌}
use mathlib.Core.Bool.{Bool, true, false, true≢false}
use native.Mathlib.Omega.{arith}
use borrow.Author.Tests.{eq-eqb, ltb-true, ltb-false}
use lib.Dec.{eqb, ltb}
use lib.ListN.{length, get_or, drop, replicate}
use lib.Seq.{get_or-drop}
use Rattle.iff.specs.Tables.{Row, tag, word, row_at, rows_of_width, all_zero}
use Rattle.tables.proofs.Each.{Each}
use Rattle.tables.proofs.Rows.{Used, rows_most, row_is, table_rows_used, word_of_row}
use Rattle.tables.proofs.Filled.{all_zeros}

used_at : (w : ℕ) (rs : List Row) → Each (Used w) rs → (i : ℕ) → i < length rs → eqb (tag (get_or rs i [])) 0 ≡ false
used_at w [] u i h = absurd (omega arith)
used_at w (r ∷ rs) u zero h = u.0.1
used_at w (r ∷ rs) u (suc i) h = used_at w rs u.1 i (omega arith)

zeros_at : (m i : ℕ) → ◌≡◌ {A = ℕ} (get_or (replicate m 0) i 0) 0
zeros_at zero i = refl
zeros_at (suc m) zero = refl
zeros_at (suc m) (suc i) = zeros_at m i

module _ (w : ℕ) (t : List ℕ) (some : 0 < w) (i : ℕ) where
  -- a row in use begins with a word that is not 0
  pub in_use_lem : i < length (rows_of_width w t) → word (row_at w t i) 0 ≡ 0 → ⊥
  in_use_lem h e =
      let is = row_is w (length t / w) t i h in
      true≢false (sym (eq-eqb (tag (row_at w t i)) 0 e) ∙ (ap (λ (r : Row). eqb (tag r) 0) (sym is) ∙ used_at w (rows_of_width w t) (table_rows_used w some t) i h))

  -- a row behind those in use is zero
  pub unused : all_zero (drop (length (rows_of_width w t) * w) t) ≡ true → length (rows_of_width w t) ≤ i → word (row_at w t i) 0 ≡ 0
  unused z h =
      let n = length (rows_of_width w t) in
      let m : n * w ≤ i * w = mul-le-mul_right w h in
      let k : i * w + 0 ≡ n * w + (i * w - n * w) = omega arith in
      word_of_row w t i 0 some
      ∙ (ap (λ (j : ℕ). get_or t j 0) k
      ∙ (sym (get_or-drop (n * w) t (i * w - n * w) 0)
      ∙ (ap (λ (x : List ℕ). get_or x (i * w - n * w) 0) (all_zeros (drop (n * w) t) z) ∙ zeros_at (length (drop (n * w) t)) (i * w - n * w))))

  -- so a row that does not begin with 0 is one in use
  pub is_used : all_zero (drop (length (rows_of_width w t) * w) t) ≡ true → (word (row_at w t i) 0 ≡ 0 → ⊥) → i < length (rows_of_width w t)
  is_used z ne = go (ltb i (length (rows_of_width w t))) refl
    where
      go : (b : Bool) → ltb i (length (rows_of_width w t)) ≡ b → i < length (rows_of_width w t)
      go true e = ltb-true _ _ e
      go false e = absurd (ne (unused z (ltb-false _ _ e)))

  -- and one that does is none, and none behind it is
  pub is_unused : word (row_at w t i) 0 ≡ 0 → length (rows_of_width w t) ≤ i
  is_unused e = go (ltb i (length (rows_of_width w t))) refl
    where
      go : (b : Bool) → ltb i (length (rows_of_width w t)) ≡ b → length (rows_of_width w t) ≤ i
      go true q = absurd (in_use_lem (ltb-true _ _ q) e)
      go false q = ltb-false _ _ q

-- THE SEARCH: the number of rows in use is from `low` to `high`
pub record Between (w : ℕ) (t : List ℕ) (low high : ℕ) : Type 0 where
  pub zeros : all_zero (drop (length (rows_of_width w t) * w) t) ≡ true
  pub at_least : low ≤ length (rows_of_width w t)
  pub at_most : length (rows_of_width w t) ≤ high
  pub inside : high ≤ length t / w

module _ (w : ℕ) (t : List ℕ) where
  pub starts : (f : ℕ) → w ≡ f → all_zero (drop (length (rows_of_width f t) * f) t) ≡ true → Between w t 0 (length t / w)
  starts f e z =
      record { zeros = rw e z; at_least = omega arith; at_most = rows_most w (length t / w) t; inside = omega arith }

  module _ (low high : ℕ) (b : Between w t low high) where
    pub ends : (f : ℕ) → w ≡ f → high ≤ low → low ≡ length (rows_of_width f t)
    ends f e h =
        let z : low ≡ length (rows_of_width w t) = omega (arith, b.at_least, b.at_most) in
        rw (← e) z

    module _ (some : 0 < w) (i x : ℕ) (is : x ≡ word (row_at w t i) 0) (l : i < high) where
      pub before_it : x ≡ 0 → Between w t low i
      before_it e =
          record {
            zeros = b.zeros;
            at_least = b.at_least;
            at_most = is_unused w t some i (sym is ∙ e);
            inside = omega (arith, b.inside);
          }

      pub behind_it : (x ≡ 0 → ⊥) → Between w t (i + 1) high
      behind_it ne =
          record {
            zeros = b.zeros;
            at_least = omega (arith, is_used w t some i b.zeros (λ q. ne (is ∙ q)));
            at_most = b.at_most;
            inside = b.inside;
          }
