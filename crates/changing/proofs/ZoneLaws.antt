-- A day's number, and a time on that day. Assumes nothing.
use Rattle.std.specs.Prelude.{None, Option, Some}
use Prim.Native.Nat.{ℕ, ◌+◌}
use mathlib.Core.Path.{◌≡◌, ap, sym, ◌∙◌}
use mathlib.Core.List.{List}
use native.Mathlib.Nat.{zero-add}
use Rattle.iff.specs.Days.{day_of}
use Rattle.iff.specs.Files.{PerFile}
use Rattle.iff.specs.Tables.{Row, rows_in}
use Rattle.iff.specs.Words.{first_day}
use Rattle.iff.specs.declared.File.TheVariants.{Delivery}
use Rattle.iff_rules.specs.Rows.{first_of}
use Rattle.iff_desk.specs.Store.{day_number, number_on}
use Rattle.iff_desk.specs.Stops.{told_on}
use Rattle.day_times.specs.Told.{ToldFrom}
use Rattle.changing.specs.Agree.{ToldOf}
use Rattle.iff_desk.specs.declared.Moment.{Moment}

-- the first day of rows that are a table's
module _ (R : PerFile (List Row)) (d : List ℕ) (e : R.delivery ≡ rows_in Delivery d) (first : ℕ) (f : first ≡ first_day (first_of (rows_in Delivery d)))
    (day : ℕ) where
  first_of_lem : day_of (first_day (first_of R.delivery)) ≡ day_of first
  first_of_lem = ap day_of (ap (λ (rs : List Row). first_day (first_of rs)) e ∙ sym f)

  pub number_is : (n : ℕ) → day_of first ≡ Some n → n + day ≡ number_on R day
  number_is n q = ap (λ (x : Option ℕ). day_number x + day) (sym (first_of_lem ∙ q))

  pub no_number : day_of first ≡ None → day ≡ number_on R day
  no_number q = sym (ap (λ (x : Option ℕ). day_number x + day) (first_of_lem ∙ q) ∙ zero-add day)

-- a time that was told by the day's number
pub told_on_lem : (d tz st : List ℕ) (station day number written : ℕ)
    → ((R : PerFile (List Row)) → R.delivery ≡ rows_in Delivery d → number ≡ number_on R day) → (t : Option (Option Moment))
    → ToldFrom tz st (λ R. told_on R station number written) t → ToldOf d tz st (λ R. told_on R station (number_on R day) written) t
told_on_lem d tz st station day number written n t f =
    record { is = λ R z. rw (← n R z.delivery) (f.is R z.timezone z.stations); few = f.few }
