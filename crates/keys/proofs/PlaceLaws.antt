-- The slots that are tried for a key are there. Assumes nothing.
use Prim.Native.Nat.{ℕ, ◌+◌, ◌-◌, ◌*◌, ◌/◌, ◌%◌, ◌<◌, ◌≤◌}
use mathlib.Core.Path.{◌≡◌, refl}
use mathlib.Core.Bool.{Bool, true, false, cond}
use native.Mathlib.Nat.{mod-lt, mul-le-mul_right}
use native.Mathlib.Omega.{arith}
use borrow.Author.Tests.{ltb-true, ltb-false}
use lib.Dec.{ltb}
use Rattle.keys.specs.Places.{probes, few, place_of}

-- no more than there are, one at least where there is one, and no more than 32 bits hold
pub few_is : (n : ℕ) → (few n ≤ n) × (0 < n → 0 < few n) × (few n < 4294967296)
unfolding few
few_is n = go (ltb n 4294967296) refl
  where
    go : (b : Bool) → ltb n 4294967296 ≡ b
        → (cond b n 4294967295 ≤ n) × (0 < n → 0 < cond b n 4294967295) × (cond b n 4294967295 < 4294967296)
    go true e = (omega arith, λ h. h, omega (arith, ltb-true n 4294967296 e))
    go false e = (omega (arith, ltb-false n 4294967296 e), λ h. omega arith, omega arith)

-- a part of 2 to the 32 of some is less than all of them
pub part_below : (x f : ℕ) → x < 4294967296 → 0 < f → x * f / 4294967296 < f
part_below x f h s =
    let p : x * f ≤ 4294967295 * f = mul-le-mul_right f (omega arith) in
    omega (arith, p)

pub place_inside : (key slots : ℕ) → probes < slots → place_of key slots + probes < slots
unfolding place_of
place_inside key slots h =
    let s : 0 < slots - probes = omega arith in
    let x : key % 4294967291 * 2654435761 % 4294967296 < 4294967296 = mod-lt (key % 4294967291 * 2654435761) (omega arith) in
    let f = few_is (slots - probes) in
    omega (arith, part_below (key % 4294967291 * 2654435761 % 4294967296) (few (slots - probes)) x (f.1 s), f.0)

-- two numbers of 32 bits make a word
pub product_fits : (x f : ℕ) → x < 4294967296 → f < 4294967296 → x * f < 18446744073709551616
product_fits x f h g =
    let p : x * f ≤ 4294967295 * f = mul-le-mul_right f (omega arith) in
    omega (arith, p)
