-- Laws of numbers read digit by digit, from the lowest on, and of a code read byte by byte. Assumes nothing.
use Prim.Native.Nat.{ℕ, zero, suc, ◌-◌, ◌*◌, ◌/◌, ◌%◌, ◌^◌, ◌≤◌, ◌<◌}
use mathlib.Core.Path.{◌≡◌, refl, ap, sym, ◌∙◌}
use mathlib.Core.Bool.{Bool, true, false, ◌&&◌, not, and-true, and-false}
use native.Mathlib.Nat.{pow-zero, pow-suc, div-lt_iff_lt-mul, le-div_iff_mul-le}
use native.Mathlib.Omega.{arith}
use lib.Dec.{eqb, ltb, lit<}
use borrow.Author.Tests.{ltb-true, ltb-false, lt-ltb, le-ltb, eq-eqb, ne_eqb}
use Rattle.iff.specs.Bytes.{blank, allowed}
use Rattle.iff.specs.Lists.{all}
use Rattle.iff.specs.Values.{all_blank, code_bytes, code_right}

-- BELOW A POWER, digit by digit: what is left without the last digit is below the power before
pub below_step : (b w n : ℕ) → 0 < b → ltb w (b ^ suc n) ≡ ltb (w / b) (b ^ n)
below_step b w n h = rw pow-suc (go (ltb (w / b) (b ^ n)) refl)
  where
    go : (t : Bool) → ltb (w / b) (b ^ n) ≡ t → ltb w (b ^ n * b) ≡ t
    go true e = lt-ltb w (b ^ n * b) ((div-lt_iff_lt-mul h).0 (ltb-true _ _ e))
    go false e = le-ltb w (b ^ n * b) ((le-div_iff_mul-le h).0 (ltb-false _ _ e))

-- below the power 0 is only 0
pub below_end : (b w : ℕ) → ltb w (b ^ 0) ≡ eqb w 0
below_end b w = rw pow-zero (go w)
  where
    go : (w : ℕ) → ltb w 1 ≡ eqb w 0
    go zero = refl
    go (suc w) = le-ltb (suc w) 1 (omega arith) ∙ sym (ne_eqb (suc w) 0 (λ e. omega arith))

-- CODES: what the bytes that are left say, where those read were all blank or not
unfoldable pub code_from : Bool → ℕ → ℕ → Bool
code_from b zero w = eqb w 0 && not b
code_from b (suc n) w = allowed (w % 256) && code_from (b && eqb blank (w % 256)) n (w / 256)

code_from_lem : (b : Bool) (n w : ℕ)
    → (ltb w (256 ^ n) && (all allowed (code_bytes n w) && not (b && all_blank (code_bytes n w)))) ≡ code_from b n w
unfolding code_from code_bytes all
code_from_lem b zero w = rw (below_end, and-true)
code_from_lem b (suc n) w =
    rw (below_step 256 w n (lit< tt))
    (regroup (ltb (w / 256) (256 ^ n)) (allowed (w % 256)) (all allowed (code_bytes n (w / 256))) b (eqb blank (w % 256)) (all_blank (code_bytes n (w / 256)))
    ∙ ap (λ (t : Bool). allowed (w % 256) && t) (code_from_lem (b && eqb blank (w % 256)) n (w / 256)))
  where
    regroup : (x a p b e q : Bool) → (x && ((a && p) && not (b && (e && q)))) ≡ (a && (x && (p && not ((b && e) && q))))
    regroup x true p true e q = refl
    regroup x true p false e q = refl
    regroup x false p b e q = and-false x

-- the loop over the columns: what is left is the whole
pub record Coding (word width left columns : ℕ) (blanks : Bool) : Type 0 where
  pub few : columns ≤ width
  pub whole : code_right width word ≡ code_from blanks columns left

pub code_begin : (word width : ℕ) → Coding word width word width true
unfolding code_right
code_begin word width = record { few = omega arith; whole = code_from_lem true width word }

module _ (word width left columns : ℕ) (blanks : Bool) (l : Coding word width left columns blanks) where
  module _ (h : 0 < columns) where
    step : code_from blanks columns left ≡ (allowed (left % 256) && code_from (blanks && eqb blank (left % 256)) (columns - 1) (left / 256))
    unfolding code_from
    step =
        let n : columns ≡ suc (columns - 1) = omega arith in
        ap (λ (k : ℕ). code_from blanks k left) n

    pub code_fails : allowed (left % 256) ≡ false → false ≡ code_right width word
    code_fails e = sym (l.whole ∙ step ∙ rw e)

    pub code_on : allowed (left % 256) ≡ true → (b : Bool) → b ≡ (blanks && eqb blank (left % 256))
        → Coding word width (left / 256) (columns - 1) b
    code_on e b q = record { few = omega arith; whole = l.whole ∙ step ∙ rw (e, q) }

  module _ (h : columns ≤ 0) where
    last : code_right width word ≡ (eqb left 0 && not blanks)
    unfolding code_from
    last =
        let n : columns ≡ 0 = omega arith in
        l.whole ∙ ap (λ (k : ℕ). code_from blanks k left) n

    pub code_long : (left ≡ 0 → ⊥) → false ≡ code_right width word
    code_long e = sym (last ∙ rw (ne_eqb left 0 e))

    pub code_end : left ≡ 0 → not blanks ≡ code_right width word
    code_end e = sym (last ∙ rw (eq-eqb left 0 e))
