-- The needed time, of two services' rows at a station, and the verdict that it leads to.
use Rattle.std.specs.Prelude.{ℕ, ◌-◌, List, ℤ, Option}
use Rattle.iff.specs.Files.{PerFile}
use Rattle.iff.specs.Tables.{Row, row_width}
use Rattle.iff.specs.Words.{change_flag, change_time}
use Rattle.iff.specs.declared.File.TheVariants.{Timetbls}
use Rattle.iff_desk.specs.Store.{station_row}
use Rattle.iff_desk.specs.Changing.{riding_on, pair_at, best_at, core}
use Rattle.iff_desk.specs.declared.Call.{Call}
use Rattle.iff_desk.specs.declared.Change.{Change}
use Rattle.store.specs.Found.{rows_of}
use Rattle.needed_times.specs.declared.SideRows.{SideRows}
use Rattle.iff_desk.specs.declared.Best.{Best}

-- a service's rows that were found
abbrev pub rows_found : List ℕ → SideRows → List Row
rows_found t s = rows_of (row_width Timetbls) t s.part

-- the best row of XCHANGES, for A on leg i - 1 and B on leg j, on A's day
abbrev pub best_for : PerFile (List Row) → List Row → List Row → ℕ → Call → Call → Option Best
best_for R a_rows b_rows station A B = best_at R station (riding_on a_rows (A.stop - 1)) (riding_on b_rows B.stop) A.day

abbrev pub verdict_on : PerFile (List Row) → ℤ → List Row → List Row → ℕ → Call → Call → Change
verdict_on R gap a_rows b_rows station A B =
    core gap (pair_at R station A.service B.service) (change_flag (station_row R station)) (best_for R a_rows b_rows station A B)
    (change_time (station_row R station))
