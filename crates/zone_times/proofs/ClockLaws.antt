-- A time by a period. Assumes nothing.
use Rattle.std.specs.Prelude.{None, Option, Some}
use Prim.Native.Nat.{ℕ, ◌<◌}
use mathlib.Core.Path.{◌≡◌, refl, ap, sym, ◌∙◌}
use mathlib.Core.Bool.{Bool, true, false, not}
use native.Mathlib.Omega.{arith}
use lib.Dec.{eqb}
use lib.IntN.{ℤ, pos}
use lib.Signed.{mag}
use Rattle.iff.specs.Bytes.{dash}
use Rattle.iff.specs.Times.{minutes_of, reference_of}
use Rattle.iff.specs.Tables.{Row, tag}
use Rattle.iff.specs.Words.{hours}
use Rattle.iff.specs.declared.LocalMinutes.{LocalMinutes}
use Rattle.iff.specs.declared.ReferenceMinutes.{ReferenceMinutes}
use Rattle.iff_desk.specs.Stops.{time_by, told_if}
use Rattle.zone_times.specs.Clocks.{time_at, ClockTime, ToldFor}
use Rattle.iff_desk.specs.Answers.{moment_of}
use Rattle.iff_desk.specs.declared.Moment.{Moment}

-- no time is on no clock
pub no_clock : (time : ℕ) (earlier : Bool) (hours : ℕ) → minutes_of time ≡ None → ClockTime time earlier hours None
no_clock time earlier hours e =
    record {
      is = rw e;
      few = record { few = λ l m q. let z : ◌≡◌ {A = ℕ} 0 1 = cc in absurd (omega arith) };
    }

pub on_clocks : (time : ℕ) (earlier : Bool) (hours m : ℕ) → minutes_of time ≡ Some m → (l : LocalMinutes) → l.0 ≡ pos m
    → (r : ReferenceMinutes) → r ≡ reference_of l earlier hours → mag r.0 < 20000 → ClockTime time earlier hours (moment_of l r)
on_clocks time earlier hours m e l p r q f =
    let k : l ≡ record { 0 = pos m } = ap (λ (x : ℤ). record { 0 = x }) p in
    record {
      is = rw (e, q, k);
      few =
          record {
            few =
                λ l2 m2 y. let z : ◌≡◌ {A = Moment} (record { local = l; reference = r }) (record { local = l2; reference = m2 }) = cc in
                rw (← ap (λ t. t.reference) z) f;
          };
    }

-- a period's own sign and hours
time_by_lem : (p : Row) (m : Option ℕ) → time_by p m ≡ time_at (eqb (tag p) dash) (hours p) m
time_by_lem p (Some m) = refl
time_by_lem p None = refl

-- what is told is the time that was asked for
told_is : (there : Bool) (x y : Option Moment) → told_if there x ≡ Some y → x ≡ y
told_is true (Some moment) y e = cc
told_is false (Some moment) y e = let z : ◌≡◌ {A = ℕ} 0 1 = cc in absurd (omega arith)
told_is there None y e = cc

pub told_for : (p : Row) (time w h : ℕ) (x : Option Moment) (t : Option (Option Moment)) → w ≡ tag p → h ≡ hours p → ClockTime time (eqb w dash) h x
    → t ≡ told_if (not (eqb w 0)) x → ToldFor p time t
told_for p time w h x t e f c q =
    record {
      is = rw (q, c.is, e, f, time_by_lem p (minutes_of time));
      few = λ y k. rw (← told_is (not (eqb w 0)) x y (sym q ∙ k)) c.few;
    }
