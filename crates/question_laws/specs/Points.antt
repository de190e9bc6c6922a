-- Document 01's rule for ranks, before request W3: a sum of points.
use Rattle.std.specs.Prelude.{ℕ, ◌+◌, ◌-◌, List, [], ◌∷◌, Bool, true, false, cond, drop, eqb, None, Option, Result, Err}
use Rattle.iff.specs.Lists.{kept}
use Rattle.iff.specs.Files.{PerFile}
use Rattle.iff.specs.Tables.{Row}
use Rattle.iff.specs.Words.{named, exception_time}
use Rattle.iff.specs.declared.Reason.TheVariants.{NotSound}
use Rattle.iff_rules.specs.References.{any_company, any_mode}
use Rattle.iff_desk.specs.Sound.{sound, rows_of_tables}
use Rattle.iff_desk.specs.Store.{group_of, service_rows, stop_at}
use Rattle.iff_desk.specs.Stops.{arrival_on, departure_on}
use Rattle.iff_desk.specs.Changing.{Side, call_of, from_keys, to_keys, applies, better, riding_on, core_by, precheck, change_after}
use Rattle.iff_desk.specs.declared.Riding.{Riding}
use Rattle.iff_desk.specs.declared.Call.{Call}
use Rattle.iff_desk.specs.declared.Change.{Change}
use Rattle.iff_desk.specs.declared.Best.{Best}
use Rattle.iff.specs.declared.Reason.{Reason}

-- "Rank, desk: 8, 4, 2, 1 for an explicit from company, from mode, to company, to mode."
abbrev pub explicit : ℕ → ℕ → ℕ → ℕ
explicit any key points = cond (eqb key any) 0 points

unfoldable pub rank_by_points : Riding → Riding → ℕ
rank_by_points from to =
    explicit any_company from.company 8 + explicit any_mode from.mode 4
    + explicit any_company to.company 2 + explicit any_mode to.mode 1

-- "Highest rank wins, then the larger time.", by it
unfoldable pub best_by_points : Option Best → List Row → Option Best
best_by_points b [] = b
best_by_points b (r ∷ rs) = best_by_points (better b (rank_by_points (from_keys r) (to_keys r)) (exception_time r)) rs

abbrev pub best_at_by_points : PerFile (List Row) → ℕ → Riding → Riding → ℕ → Option Best
best_at_by_points R station a b d = best_by_points None (kept (applies R a b d) (drop 1 (group_of station R.xchanges)))

abbrev pub best_between_by_points : PerFile (List Row) → Call → Call → Option Best
best_between_by_points R A B =
    let a_rows = service_rows R A.service in
    best_at_by_points R (named (stop_at a_rows A.stop)) (riding_on a_rows (A.stop - 1)) (riding_on (service_rows R B.service) B.stop) A.day

-- the change by it
unfoldable pub core_by_points : PerFile (List Row) → Call → Call → Result Change Reason
core_by_points R A B =
    core_by R A B (arrival_on R (stop_at (service_rows R A.service) A.stop) A.day)
    (departure_on R (stop_at (service_rows R B.service) B.stop) B.day) (best_between_by_points R A B)

abbrev pub change_in_by_points : Bool → PerFile (List Row) → Side → Side → Result Change Reason
change_in_by_points false R A B = Err NotSound
change_in_by_points true R A B = change_after (precheck R A B) (core_by_points R (call_of R A) (call_of R B))

unfoldable pub change_by_points : PerFile (List ℕ) → Side → Side → Result Change Reason
change_by_points T A B = change_in_by_points (sound T) (rows_of_tables T) A B
