-- "Running day: service, leg, date. 12, 13, 14."
use Rattle.std.specs.Prelude.{ℕ, List, [], ◌∷◌, Bool, true, false, ◌&&◌, not, ltb, leb, Err, Ok, Result}
use Rattle.iff.specs.Bytes.{dash}
use Rattle.iff.specs.Refusals.{first_test, unless, Test}
use Rattle.iff.specs.Files.{PerFile}
use Rattle.iff.specs.Tables.{Row}
use Rattle.iff.specs.Words.{named}
use Rattle.iff.specs.declared.Reason.TheVariants.{NoService, NoStop, NoDate, NotSound}
use Rattle.iff_rules.specs.Legs.{stops_of}
use Rattle.iff_desk.specs.Sound.{sound, rows_of_tables}
use Rattle.iff_desk.specs.Store.{service_rows, is_empty, record_on, is_valid, day_on, marked, vector_of}
use Rattle.iff.specs.declared.Reason.{Reason}

-- "A service runs on leg k on a date, that of its first departure, if the vector of that leg's `-` record has 1 on it, counted from the first day."
unfoldable pub runs_on : PerFile (List Row) → List Row → ℕ → ℕ → Bool
runs_on R rs k d = marked (vector_of R.footnote (named (record_on dash k rs))) d

-- legs are 1 to n - 1
abbrev pub is_leg : List Row → ℕ → Bool
is_leg rs k = leb 1 k && ltb k (stops_of rs)

-- a service, a stop or leg of it that is right, and a date: 12, 13, 14
unfoldable pub asked : PerFile (List Row) → ℕ → Bool → ℕ → Test
asked R s right date = first_test (unless (not (is_empty (service_rows R s))) NoService ∷ unless right NoStop ∷ unless (is_valid R date) NoDate ∷ [])

abbrev pub runs : Bool → Result Bool Reason
runs true = Ok true
runs false = Ok false

abbrev pub running_after : Test → Bool → Result Bool Reason
running_after (Ok _) b = runs b
running_after (Err r) b = Err r

unfoldable pub running_in : PerFile (List Row) → ℕ → ℕ → ℕ → Result Bool Reason
running_in R s k date = running_after (asked R s (is_leg (service_rows R s) k) date) (runs_on R (service_rows R s) k (day_on R date))

-- "Calls that are lent a loaded store test 16 first."
abbrev pub running : Bool → PerFile (List Row) → ℕ → ℕ → ℕ → Result Bool Reason
running false R s k date = Err NotSound
running true R s k date = running_in R s k date

unfoldable pub running_day : PerFile (List ℕ) → ℕ → ℕ → ℕ → Result Bool Reason
running_day T s k date = running (sound T) (rows_of_tables T) s k date
