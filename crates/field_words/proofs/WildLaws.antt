-- The first columns of the wildcard are the wildcard at that width. Assumes nothing.
use Prim.Native.Nat.{ℕ, zero, suc, ◌-◌, ◌≤◌}
use mathlib.Core.Path.{◌≡◌, refl, ap}
use mathlib.Core.List.{List, ◌∷◌}
use native.Mathlib.Omega.{arith}
use lib.ListN.{length, take, replicate}
use lib.Seq.{length-take-le}
use Rattle.iff.specs.Bytes.{blank, asterisk}
use Rattle.iff.specs.Values.{wildcard}
use Rattle.field_words.specs.Fits.{Digits}

blanks_front : (n m : ℕ) → n ≤ m → take n (replicate m blank) ≡ replicate n blank
blanks_front zero m h = refl
blanks_front (suc n) zero h = absurd (omega arith)
blanks_front (suc n) (suc m) h = ap (λ (l : List ℕ). blank ∷ l) (blanks_front n m (omega arith))

pub wild_front : (width : ℕ) → Digits width → take width (asterisk ∷ replicate 7 blank) ≡ wildcard width
unfolding wildcard
wild_front zero d = absurd (omega (arith, d.some))
wild_front (suc n) d =
    let z : suc n - 1 ≡ n = omega arith in
    rw (z, blanks_front n 7 (omega (arith, d.few)))

pub wild_length : (width : ℕ) → Digits width → length (take width (asterisk ∷ replicate 7 blank)) ≡ width
wild_length width d = length-take-le width (asterisk ∷ replicate 7 blank) (omega (arith, d.few))
