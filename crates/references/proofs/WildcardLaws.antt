-- The wildcard is no number: its code is too great for one of as many digits, at any width. Laws of the definitions alone. Assumes nothing.
use Prim.Native.Nat.{ℕ, zero, suc, ◌+◌, ◌-◌, ◌*◌, ◌^◌, ◌≤◌, ◌<◌}
use mathlib.Core.Path.{◌≡◌}
use native.Mathlib.Nat.{mul_assoc, mul-le-mul_right, pow-zero, pow-succ'}
use native.Mathlib.Omega.{arith}
use lib.ListN.{replicate}
use Rattle.iff.specs.Values.{value, code_of, wildcard}

-- each byte more makes a code 256 times as great at the least, so ten times
blanks_after : (acc n : ℕ) → acc * 10 ^ n ≤ value 256 0 acc (replicate n 32)
unfolding value
blanks_after acc zero = rw pow-zero (omega arith)
blanks_after acc (suc n) =
    let m : acc * 10 ≤ acc * 256 + 32 = omega arith in
    let r = mul-le-mul_right (10 ^ n) m in
    rw (pow-succ', ← mul_assoc) (omega (arith, blanks_after (acc * 256 + 32) n))

-- an asterisk is 42
code_of_wildcard : (n : ℕ) → code_of (wildcard (suc n)) ≡ value 256 0 42 (replicate n 32)
unfolding value wildcard
code_of_wildcard n = let z : suc n - 1 ≡ n = omega arith in rw z

pub wildcard_above : (w : ℕ) → 1 ≤ w → 10 ^ w ≤ code_of (wildcard w)
wildcard_above zero h = absurd (omega arith)
wildcard_above (suc n) h = rw (pow-succ', code_of_wildcard) (omega (arith, blanks_after 42 n))

-- so no number of w digits is the wildcard
pub no_number : (w n : ℕ) → 1 ≤ w → n < 10 ^ w → n ≡ code_of (wildcard w) → ⊥
no_number w n h b e = omega (arith, wildcard_above w h)
