-- A time by a period, with the range that the gap between two of them asks for.
use Rattle.std.specs.Prelude.{ℕ, ◌<◌, ◌≡◌, Bool, pos, None, Option, Some}
use Rattle.std.specs.Int.Signed.{mag}
use Rattle.iff.specs.Tables.{Row}
use Rattle.iff.specs.Times.{minutes_of, reference_of}
use Rattle.iff.specs.declared.LocalMinutes.{LocalMinutes}
use Rattle.iff.specs.declared.ReferenceMinutes.{ReferenceMinutes}
use Rattle.iff_desk.specs.Stops.{told_by}
use Rattle.iff_desk.specs.Answers.{moment_of}
use Rattle.iff_desk.specs.declared.Moment.{Moment}

-- reference minutes are few
pub record FewMinutes (t : Option Moment) : Type 0 where
  pub few : (l : LocalMinutes) (m : ReferenceMinutes) → t ≡ moment_of l m → mag m.0 < 20000

-- a time by a zone's sign and hours
abbrev pub time_at : Bool → ℕ → Option ℕ → Option Moment
time_at earlier hours (Some m) = moment_of (record { 0 = pos m }) (reference_of (record { 0 = pos m }) earlier hours)
time_at earlier hours None = None

pub record ClockTime (time : ℕ) (earlier : Bool) (hours : ℕ) (t : Option Moment) : Type 0 where
  pub is : t ≡ time_at earlier hours (minutes_of time)
  pub few : FewMinutes t

-- by a period, where there is one
pub record ToldFor (p : Row) (time : ℕ) (t : Option (Option Moment)) : Type 0 where
  pub is : t ≡ told_by p (minutes_of time)
  pub few : (x : Option Moment) → t ≡ Some x → FewMinutes x
