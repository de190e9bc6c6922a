-- Laws of minutes: how far from 0 a sum and a difference can be, that a signed local holds what was put into it, and that a time's minutes are few.
-- Assumes nothing.
use Rattle.std.specs.Prelude.{None, Some}
use Prim.Native.Nat.{ℕ, zero, suc, ◌+◌, ◌-◌, ◌*◌, ◌/◌, ◌%◌, ◌^◌, ◌≤◌, ◌<◌}
use mathlib.Core.Path.{◌≡◌, refl, ◌∙◌}
use mathlib.Core.Bool.{Bool, true, false, cond, ◌&&◌}
use native.Mathlib.Omega.{arith}
use lib.Dec.{ltb}
use lib.IntN.{ℤ, pos, negsuc, neg_ℤ, ◌+ℤ◌, ◌-ℤ◌}
use lib.Signed.{mag}
use borrow.Author.Tests.{lt-ltb, ltb-true}
use mir.Syntax.{w32}
use mir.Val.{SFits, to_z, of_z}
use mir.Facts.{to_z-of_z}
use Rattle.iff.specs.Times.{is_time, minutes_of}

-- 99 hours and 59 minutes are 5999
pub minutes_small : (t m : ℕ) → minutes_of t ≡ Some m → m < 6000
unfolding minutes_of is_time
minutes_small t m = go (ltb t 10000) refl
  where
    go : (b : Bool) → ltb t 10000 ≡ b → cond (b && ltb (t % 100) 60) (Some (t / 100 * 60 + t % 100)) None ≡ Some m → m < 6000
    go true p e = within (ltb (t % 100) 60) refl e
      where
        within : (b : Bool) → ltb (t % 100) 60 ≡ b → cond b (Some (t / 100 * 60 + t % 100)) None ≡ Some m → m < 6000
        within true q e =
            let z : t / 100 * 60 + t % 100 ≡ m = cc in
            omega (arith, ltb-true t 10000 p, ltb-true (t % 100) 60 q)
        within false q e = let z : ◌≡◌ {A = ℕ} 0 1 = cc in omega arith
    go false p e = let z : ◌≡◌ {A = ℕ} 0 1 = cc in omega arith

mag_sub : (a b : ℕ) (t : Bool) → mag (cond t (negsuc (b - suc a)) (pos (a - b))) ≤ a + b
mag_sub a b true = omega arith
mag_sub a b false = omega arith

pub mag_plus : (a b : ℤ) → mag (a +ℤ b) ≤ mag a + mag b + 1
mag_plus (pos a) (pos b) = omega arith
mag_plus (pos a) (negsuc b) = omega (arith, mag_sub a (suc b) (ltb a (suc b)))
mag_plus (negsuc a) (pos b) = omega (arith, mag_sub b (suc a) (ltb b (suc a)))
mag_plus (negsuc a) (negsuc b) = omega arith

mag_neg : (b : ℤ) → mag (neg_ℤ b) ≤ mag b + 1
mag_neg (pos zero) = omega arith
mag_neg (pos (suc b)) = omega arith
mag_neg (negsuc b) = omega arith

-- one more than `mag-plus`, since -b can be one further from 0 than b
pub mag_minus : (a b : ℤ) → mag (a -ℤ b) ≤ mag a + mag b + 2
mag_minus a b = omega (arith, mag_plus a (neg_ℤ b), mag_neg b)

-- a number as a local of 32 bits holds it
abbrev pub Held : ℤ → ℤ
Held z = to_z w32 (of_z w32 z)

pub held : (z : ℤ) → mag z < 2 ^ 31 → Held z ≡ z
held z h = to_z-of_z {w = w32} (record { sfits = h })

pub held_nat : (n : ℕ) → n < 2 ^ 31 → to_z w32 n ≡ pos n
held_nat n h = rw (lt-ltb n (2 ^ 31) h)

-- a number that a local holds, and a natural number that was cast to one; the bounds leave room for their sum
module _ (a : ℤ) (n : ℕ) (ha : mag a < 2 ^ 29) (hn : n < 2 ^ 29) where
  pub plus_fits : SFits w32 (Held a +ℤ to_z w32 n)
  plus_fits = rw (held a (omega arith), held_nat n (omega arith)) (record { sfits = omega (arith, mag_plus a (pos n)) })

  pub plus_is : Held (Held a +ℤ to_z w32 n) ≡ a +ℤ pos n
  plus_is = to_z-of_z plus_fits ∙ rw (held a (omega arith), held_nat n (omega arith))

  pub minus_fits : SFits w32 (Held a -ℤ to_z w32 n)
  minus_fits = rw (held a (omega arith), held_nat n (omega arith)) (record { sfits = omega (arith, mag_minus a (pos n)) })

  pub minus_is : Held (Held a -ℤ to_z w32 n) ≡ a -ℤ pos n
  minus_is = to_z-of_z minus_fits ∙ rw (held a (omega arith), held_nat n (omega arith))

-- two numbers that locals hold
module _ (a b : ℤ) (ha : mag a < 2 ^ 29) (hb : mag b < 2 ^ 29) where
  pub less_fits : SFits w32 (Held a -ℤ Held b)
  less_fits = rw (held a (omega arith), held b (omega arith)) (record { sfits = omega (arith, mag_minus a b) })

  pub less_is : Held (Held a -ℤ Held b) ≡ a -ℤ b
  less_is = to_z-of_z less_fits ∙ rw (held a (omega arith), held b (omega arith))
