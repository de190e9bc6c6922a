-- The core of a change, step by step: the hurdles, 15 for either time, the verdict. Assumes nothing.
use Rattle.std.specs.Prelude.{Err, None, Ok, Option, Some, Result}
use Prim.Native.Nat.{ℕ}
use mathlib.Core.Path.{◌≡◌, refl, ap, sym, ◌∙◌}
use mathlib.Core.List.{List}
use mathlib.Core.Bool.{true, false}
use Rattle.iff.specs.Files.{PerFile}
use Rattle.iff.specs.Refusals.{first_test, Test}
use Rattle.iff.specs.Tables.{Row, rows_in}
use Rattle.iff.specs.Words.{named}
use Rattle.iff.specs.declared.Reason.TheVariants.{NoPeriod}
use Rattle.iff.specs.declared.File.TheVariants.{Timetbls}
use Rattle.iff_desk.specs.Store.{group_of, service_rows, stop_at}
use Rattle.iff_desk.specs.Changing.{Hurdle, stop, clear, first_hurdle, told_test, time_told, after_hurdles, change_after, core_by, core_change}
use Rattle.iff_desk.specs.declared.Call.{Call}
use Rattle.iff_desk.specs.declared.Early.{Early}
use Rattle.iff_desk.specs.declared.Early.TheVariants.{SameService}
use Rattle.iff_desk.specs.declared.Change.{Change}
use Rattle.iff_desk.specs.declared.Change.TheVariants.{NoBefore}
use Rattle.changing.specs.Sides.{stop_found, SideFor, is_same, later_hurdle, arrival_from, departure_to, verdict_by, judged_on, later_of, later_change}
use Rattle.needed_times.specs.Needed.{rows_found}
use Rattle.needed_times.specs.declared.SideRows.{SideRows}
use Rattle.iff_desk.specs.declared.Moment.{Moment}
use Rattle.iff.specs.declared.Reason.{Reason}

-- 15
module _ (R : PerFile (List Row)) (a_rows b_rows : List Row) (station : ℕ) (A B : Call) (a b x y : Option (Option Moment)) (p : x ≡ a) (q : y ≡ b) where
  pub no_first : x ≡ None → Err NoPeriod ≡ judged_on R a_rows b_rows a b station A B
  unfolding first_test
  no_first e = rw (← p, e)

  pub no_second : (t : Option Moment) → x ≡ Some t → y ≡ None → Err NoPeriod ≡ judged_on R a_rows b_rows a b station A B
  unfolding first_test
  no_second t e f = rw (← p, ← q, e, f)

  pub both_told : (t u : Option Moment) → x ≡ Some t → y ≡ Some u → Ok (verdict_by R a_rows b_rows t u station A B) ≡ judged_on R a_rows b_rows a b station A B
  unfolding first_test
  both_told t u e f = rw (← p, ← q, e, f)

-- the hurdles that ask for rows, then 15 and the verdict
after_clear : (t : Test) (c : Change) → change_after t (Ok c) ≡ after_hurdles clear t c
after_clear (Ok _) c = refl
after_clear (Err r) c = refl

module _ (R : PerFile (List Row)) (a_rows b_rows : List Row) (a b : Row) (station other : ℕ) (A B : Call) where
  abbrev arrival : Option (Option Moment)
  arrival = arrival_from R a station A

  abbrev departure : Option (Option Moment)
  departure = departure_to R b other B

  abbrev verdict : Change
  verdict = verdict_by R a_rows b_rows (time_told arrival) (time_told departure) station A B

  pub later_stops : (e : Early) → later_hurdle R a_rows b_rows A B ≡ stop e → Ok (NoBefore e) ≡ later_of R a_rows b_rows a b station other A B
  unfolding later_of
  later_stops e q = sym (ap (λ (h : Hurdle). after_hurdles h (told_test arrival departure) verdict) q)

  pub later_clear : later_hurdle R a_rows b_rows A B ≡ clear
      → judged_on R a_rows b_rows arrival departure station A B ≡ later_of R a_rows b_rows a b station other A B
  unfolding later_of
  later_clear q = after_clear (told_test arrival departure) verdict ∙ sym (ap (λ (h : Hurdle). after_hurdles h (told_test arrival departure) verdict) q)

-- rows, stops and stations are those that were found
module _ (R : PerFile (List Row)) (tt : List ℕ) (A B : Call) (a b : SideRows) (e : R.timetbls ≡ rows_in Timetbls tt) (s : SideFor tt A a)
    (u : SideFor tt B b) where
  first_rows : service_rows R A.service ≡ rows_found tt a
  first_rows = ap (group_of A.service) e ∙ s.rows

  second_rows : service_rows R B.service ≡ rows_found tt b
  second_rows = ap (group_of B.service) e ∙ u.rows

  -- by some rows
  abbrev by_rows : List Row → List Row → Result Change Reason
  by_rows a_rows b_rows =
      later_of R a_rows b_rows (stop_at a_rows A.stop) (stop_at b_rows B.stop) (named (stop_at a_rows A.stop)) (named (stop_at b_rows B.stop)) A B

  -- by the rows found and some stops and stations
  abbrev by_stops : Row → Row → ℕ → ℕ → Result Change Reason
  by_stops x y m n = later_of R (rows_found tt a) (rows_found tt b) x y m n A B

  abbrev first_stop : Row
  first_stop = stop_at (rows_found tt a) A.stop

  abbrev second_stop : Row
  second_stop = stop_at (rows_found tt b) B.stop

  pub sides_found : later_of R (rows_found tt a) (rows_found tt b) (stop_found tt a) (stop_found tt b) a.station b.station A B ≡ later_change R A B
  sides_found =
      sym
      (ap (λ (rs : List Row). by_rows rs (service_rows R B.service)) first_rows
      ∙ ap (λ (rs : List Row). by_rows (rows_found tt a) rs) second_rows
      ∙ ap (λ (n : ℕ). by_stops first_stop second_stop n (named second_stop)) (sym s.station)
      ∙ ap (λ (n : ℕ). by_stops first_stop second_stop a.station n) (sym u.station)
      ∙ ap (λ (x : Row). by_stops x second_stop a.station b.station) s.row.is
      ∙ ap (λ (x : Row). by_stops (stop_found tt a) x a.station b.station) u.row.is)

-- the first hurdle
module _ (R : PerFile (List Row)) (A B : Call) where
  pub one_service : is_same A B ≡ true → Ok (NoBefore SameService) ≡ core_change R A B
  unfolding core_change core_by first_hurdle
  one_service h = rw h

  pub two_services : is_same A B ≡ false → later_change R A B ≡ core_change R A B
  unfolding core_change core_by later_of first_hurdle
  two_services h = rw h
