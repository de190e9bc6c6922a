-- The needed time, by where it comes from, and a gap held against it. Assumes nothing.
use Rattle.std.specs.Prelude.{None, Option, Some}
use Prim.Native.Nat.{ℕ}
use mathlib.Core.Path.{◌≡◌, refl}
use mathlib.Core.Bool.{Bool, true, false, true≢false}
use native.Mathlib.Omega.{arith}
use borrow.Author.Tests.{eq-eqb, ne_eqb, ltb-true}
use lib.Dec.{T, eqb, ltb}
use lib.IntN.{ℤ, pos, negsuc, nat_abs}
use lib.Signed.{lt_z, non_neg}
use Rattle.iff_desk.specs.declared.Source.{Source}
use Rattle.iff_desk.specs.declared.Source.TheVariants.{FromChanges, FromStations, FromXchanges}
use Rattle.iff_desk.specs.declared.Bar.TheVariants.{Pair00, Flag0}
use Rattle.iff_desk.specs.declared.Change.TheVariants.{NoBarred, NoShort, Yes, Unsettled}
use Rattle.iff_desk.specs.Changing.{settled, by_time, core}
use Rattle.iff_desk.specs.Card.{best_of}
use Rattle.iff_desk.specs.declared.Best.{Best}

module _ (gap : ℤ) (source : Source) (needed : ℕ) where
  pub too_short : (top : Bool) → lt_z gap (pos needed) ≡ true → settled gap source needed top ≡ NoShort gap source needed
  unfolding settled
  too_short top h = rw h

  pub not_settled : lt_z gap (pos needed) ≡ false → settled gap source needed true ≡ Unsettled gap source needed
  unfolding settled
  not_settled h = rw h

  pub long_enough : lt_z gap (pos needed) ≡ false → settled gap source needed false ≡ Yes gap source needed
  unfolding settled
  long_enough h = rw h

module _ (gap : ℤ) where
  pub by_exception : (rank time station_time : ℕ) → settled gap FromXchanges time (eqb time 999) ≡ by_time gap (best_of rank time) station_time
  unfolding by_time
  by_exception rank time station_time = refl

  pub by_station : (station_time : ℕ) → settled gap FromStations station_time (eqb station_time 99) ≡ by_time gap None station_time
  unfolding by_time
  by_station station_time = refl

  module _ (flag : ℕ) (best : Option Best) (time : ℕ) where
    pub pair_bars : (p : ℕ) → p ≡ 0 → NoBarred gap Pair00 ≡ core gap (Some p) flag best time
    unfolding core
    pair_bars p h = rw (eq-eqb p 0 h)

    pub pair_there : (p : ℕ) → (p ≡ 0 → ⊥) → settled gap FromChanges 0 false ≡ core gap (Some p) flag best time
    unfolding core
    pair_there p h = rw (ne_eqb p 0 h)

    pub flag_bars : flag ≡ 0 → NoBarred gap Flag0 ≡ core gap None flag best time
    unfolding core
    flag_bars h = rw (eq-eqb flag 0 h)

    pub by_needed : (flag ≡ 0 → ⊥) → by_time gap best time ≡ core gap None flag best time
    unfolding core
    by_needed h = rw (ne_eqb flag 0 h)

-- a gap below 0 is below every needed time, and any other is a number of minutes
pub below_zero : (gap : ℤ) (needed : ℕ) → lt_z gap (pos 0) ≡ true → true ≡ lt_z gap (pos needed)
below_zero (pos g) needed e = absurd (omega (arith, ltb-true g 0 e))
below_zero (negsuc g) needed e = refl

pub is_number : (gap : ℤ) → lt_z gap (pos 0) ≡ false → T (non_neg gap)
is_number (pos g) e = tt
is_number (negsuc g) e = absurd (true≢false e)

pub as_number : (gap : ℤ) (needed : ℕ) → lt_z gap (pos 0) ≡ false → ltb (nat_abs gap) needed ≡ lt_z gap (pos needed)
as_number (pos g) needed e = refl
as_number (negsuc g) needed e = absurd (true≢false e)
