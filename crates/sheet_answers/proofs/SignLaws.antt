-- A signed number as a word: below zero it is told by how far it is from -1. Assumes nothing.
use Prim.Native.Nat.{ℕ, suc, ◌-◌, ◌^◌, ◌≤◌, ◌<◌}
use mathlib.Core.Path.{◌≡◌, refl, ◌∙◌}
use mathlib.Core.Bool.{Bool, true, false, true≢false}
use native.Mathlib.Omega.{arith}
use borrow.Author.Tests.{ltb-true, le-ltb}
use lib.Dec.{T}
use lib.IntN.{ℤ, pos, negsuc, ◌-ℤ◌, nat_abs}
use lib.Signed.{lt_z, non_neg}
use mir.Syntax.{w32, w64}
use mir.Val.{SFits, Fits, to_z, of_z}
use mir.Facts.{to_z-of_z, Fits-nat_abs}
use Rattle.sheet_answers.specs.Words.{signed_word}

-- the test of a signed local is that of the number it holds
pub tested : (gap : ℤ) (t : Bool) → SFits w32 gap → lt_z (to_z w32 (of_z w32 gap)) (pos 0) ≡ t → lt_z gap (pos 0) ≡ t
tested gap t f e = rw (to_z-of_z f) at e

-- how far a number below zero is from -1
abbrev pub below : ℤ → ℕ
below (pos n) = 0
below (negsuc n) = n

from_minus_one : (g : ℤ) → lt_z g (pos 0) ≡ true → negsuc 0 -ℤ g ≡ pos (below g)
from_minus_one (pos n) e = absurd (omega (arith, ltb-true n 0 e))
from_minus_one (negsuc n) e =
    let z : suc n - 1 ≡ n = omega arith in
    rw (le-ltb (suc n) 1 (omega arith), z)

below_few : (g : ℤ) → SFits w32 g → below g < 2 ^ 31
below_few (pos n) f = omega arith
below_few (negsuc n) f = f.sfits

module _ (g : ℤ) (f : SFits w32 g) (e : lt_z g (pos 0) ≡ true) where
  pub difference : negsuc 0 -ℤ to_z w32 (of_z w32 g) ≡ pos (below g)
  difference = rw (to_z-of_z f) (from_minus_one g e)

  pub difference_fits : SFits w32 (negsuc 0 -ℤ to_z w32 (of_z w32 g))
  difference_fits = rw difference (record { sfits = below_few g f })

  pub difference_is : to_z w32 (of_z w32 (negsuc 0 -ℤ to_z w32 (of_z w32 g))) ≡ pos (below g)
  difference_is = to_z-of_z difference_fits ∙ difference

  pub is_number : T (non_neg (to_z w32 (of_z w32 (negsuc 0 -ℤ to_z w32 (of_z w32 g))))) × Fits w64 (nat_abs (to_z w32 (of_z w32 (negsuc 0 -ℤ to_z w32 (of_z w32 g)))))
  is_number = rw difference_is (tt, Fits-nat_abs {w = w32} {z = pos (below g)} tt (record { sfits = below_few g f }))

  pub far_enough : nat_abs (to_z w32 (of_z w32 (negsuc 0 -ℤ to_z w32 (of_z w32 g)))) ≤ 18446744073709551615
  far_enough = rw difference_is (omega (arith, below_few g f))

  pub told_below : 18446744073709551615 - nat_abs (to_z w32 (of_z w32 (negsuc 0 -ℤ to_z w32 (of_z w32 g)))) ≡ signed_word g
  told_below = rw difference_is (go g e)
    where
      go : (g : ℤ) → lt_z g (pos 0) ≡ true → 18446744073709551615 - below g ≡ signed_word g
      go (pos n) e = absurd (omega (arith, ltb-true n 0 e))
      go (negsuc n) e = refl

-- a number that is not below zero is its own word
pub at_least_zero : (g : ℤ) → lt_z g (pos 0) ≡ false → T (non_neg g)
at_least_zero (pos n) e = tt
at_least_zero (negsuc n) e = absurd (true≢false e)

pub told_above : (g : ℤ) → lt_z g (pos 0) ≡ false → nat_abs g ≡ signed_word g
told_above (pos n) e = refl
told_above (negsuc n) e = absurd (true≢false e)
