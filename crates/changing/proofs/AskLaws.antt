-- The precheck: what it asks of either side, and that dates which pass it are days of validity. Assumes nothing.
use Rattle.std.specs.Prelude.{Err, Ok}
use Prim.Native.Nat.{ℕ, ◌≤◌, ◌<◌}
use mathlib.Core.Path.{◌≡◌, refl, ap, sym, ◌∙◌}
use mathlib.Core.List.{List}
use mathlib.Core.Bool.{Bool, true, false, ◌&&◌, not}
use native.Mathlib.Omega.{arith}
use lib.Dec.{leb, ltb}
use Rattle.iff.specs.Days.{span, longest}
use Rattle.iff.specs.Files.{PerFile}
use Rattle.iff.specs.Refusals.{or_test, first_test, unless, Test}
use Rattle.iff.specs.Tables.{Row, row_width, rows_in}
use Rattle.iff.specs.Words as words
use Rattle.iff.specs.Words.{stop_count}
use Rattle.iff.specs.declared.File.TheVariants.{Delivery, Timetbls}
use Rattle.iff.specs.declared.Reason.{Reason}
use Rattle.iff.specs.declared.Reason.TheVariants.{NoService, NoStop, NoDate}
use Rattle.iff_rules.specs.Rows.{first_of}
use Rattle.iff_rules.specs.Legs.{stops_of}
use Rattle.iff_desk.specs.Store.{group_of, service_rows, is_empty, is_valid, first_day, last_day, day_on}
use Rattle.iff_desk.specs.Running.{asked}
use Rattle.iff_desk.specs.Changing.{Side, precheck}
use Rattle.calendar.proofs.DayLaws.{day_in_span}
use Rattle.store.specs.Found.{rows_of, BlocksTold}
use Rattle.store.specs.declared.Part.{Part}
use Rattle.changing.specs.Agree.{FewDays}
use Rattle.changing.specs.Sides.{PartFor, asked_from, asked_to}

-- a service's rows are those of its part
module _ (R : PerFile (List Row)) (tt : List ℕ) (e : R.timetbls ≡ rows_in Timetbls tt) (A : Side) (p : Part) (g : PartFor tt A.service p) where
  pub rows_found_lem : service_rows R A.service ≡ rows_of (row_width Timetbls) tt p
  rows_found_lem = ap (group_of A.service) e ∙ g.rows

  pub right_from : (n : ℕ) → n ≡ stops_of (rows_of (row_width Timetbls) tt p) → (right : Bool) → right ≡ (leb 2 A.stop && leb A.stop n)
      → asked R A.service right A.date ≡ asked_from R A
  right_from n q right h =
      ap (λ (b : Bool). asked R A.service b A.date)
      (h ∙ ap (λ (m : ℕ). leb 2 A.stop && leb A.stop m) (q ∙ ap stops_of (sym rows_found_lem)))

  pub right_to : (n : ℕ) → n ≡ stops_of (rows_of (row_width Timetbls) tt p) → (right : Bool) → right ≡ (leb 1 A.stop && ltb A.stop n)
      → asked R A.service right A.date ≡ asked_to R A
  right_to n q right h =
      ap (λ (b : Bool). asked R A.service b A.date)
      (h ∙ ap (λ (m : ℕ). leb 1 A.stop && ltb A.stop m) (q ∙ ap stops_of (sym rows_found_lem)))

-- and the first of them tells its stops
pub stops_first : (tt : List ℕ) → BlocksTold tt → (service : ℕ) (p : Part) → PartFor tt service p
    → stops_of (rows_of (row_width Timetbls) tt p) ≡ stop_count (first_of (rows_of (row_width Timetbls) tt p))
stops_first tt b service p g = rw g.rows at (b.stops service)

-- A, then B
module _ (R : PerFile (List Row)) (A B : Side) where
  pub from_fails : (r : Reason) → asked_from R A ≡ Err r → Err r ≡ precheck R A B
  unfolding precheck
  from_fails r h = rw h

  pub from_passes : asked_from R A ≡ Ok tt → asked_to R B ≡ precheck R A B
  unfolding precheck
  from_passes h = rw h

-- DAYS
or_passes : (a b : Test) → or_test a b ≡ Ok tt → (a ≡ Ok tt) × (b ≡ Ok tt)
or_passes (Ok _) b e = (refl, e)
or_passes (Err r) b e = let z : ◌≡◌ {A = ℕ} 0 1 = cc in absurd (omega arith)

unless_passes : (b : Bool) (r : Reason) → unless b r ≡ Ok tt → b ≡ true
unless_passes true r e = refl
unless_passes false r e = let z : ◌≡◌ {A = ℕ} 0 1 = cc in absurd (omega arith)

valid_date : (R : PerFile (List Row)) (s : ℕ) (right : Bool) (date : ℕ) → asked R s right date ≡ Ok tt → is_valid R date ≡ true
unfolding asked first_test
valid_date R s right date e =
    let service = unless (not (is_empty (service_rows R s))) NoService in
    let stop = unless right NoStop in
    let day = unless (is_valid R date) NoDate in
    let a = (or_passes service (or_test stop (or_test day (Ok tt))) e).1 in
    let b = (or_passes stop (or_test day (Ok tt)) a).1 in
    unless_passes (is_valid R date) NoDate (or_passes day (Ok tt) b).0

few_days : (R : PerFile (List Row)) (d : List ℕ) → R.delivery ≡ rows_in Delivery d → FewDays d → (date : ℕ) → is_valid R date ≡ true → day_on R date < longest
few_days R d e few date h =
    let s : span (first_day R) (last_day R) ≤ longest =
    omega (arith, ap (λ (rs : List Row). span (words.first_day (first_of rs)) (words.last_day (first_of rs))) e) in
    omega (arith, day_in_span (first_day R) date (last_day R) h)

pub days_few : (R : PerFile (List Row)) (d : List ℕ) → R.delivery ≡ rows_in Delivery d → FewDays d → (A B : Side) → precheck R A B ≡ Ok tt
    → (day_on R A.date < longest) × (day_on R B.date < longest)
unfolding precheck
days_few R d e few A B h =
    let p = or_passes (asked_from R A) (asked_to R B) h in
    (few_days R d e few A.date (valid_date R A.service _ A.date p.0), few_days R d e few B.date (valid_date R B.service _ B.date p.1))
