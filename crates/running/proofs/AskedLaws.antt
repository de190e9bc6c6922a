-- What a question is refused for, by the part of TIMETBLS that is the service's, and what it answers else. Assumes nothing.
use Rattle.std.specs.Prelude.{Err, Ok}
use Prim.Native.Nat.{ℕ, ◌≤◌, ◌<◌}
use mathlib.Core.Path.{◌≡◌, ◌∙◌}
use mathlib.Core.List.{List}
use mathlib.Core.Bool.{Bool, true, false, ◌&&◌}
use lib.Dec.{leb, ltb}
use Rattle.iff.specs.Days.{in_period}
use Rattle.iff.specs.Files.{PerFile}
use Rattle.iff.specs.Refusals.{first_test, Test}
use Rattle.iff.specs.Tables.{Row, row_width, rows_in}
use Rattle.iff.specs.Words as words
use Rattle.iff.specs.declared.File.TheVariants.{Timetbls}
use Rattle.iff.specs.declared.Reason.{Reason}
use Rattle.iff.specs.declared.Reason.TheVariants.{NoService, NoStop, NoDate}
use Rattle.iff_rules.specs.Rows.{first_of}
use Rattle.iff_rules.specs.Legs.{stops_of}
use Rattle.iff_desk.specs.Store.{service_rows, is_valid, day_on}
use Rattle.iff_desk.specs.Running.{asked, runs_on, is_leg, runs, running_in}
use Rattle.walks.proofs.GroupLaws.{between_none, between_first}
use Rattle.store.specs.Found.{rows_of, GroupAt}
use Rattle.store.specs.declared.Part.{Part}

-- the rows of a service are those of its part
pub service_rows_lem : (R : PerFile (List Row)) (used s : ℕ) (t : List ℕ) (p : Part) → GroupAt Timetbls used t s p → R.timetbls ≡ rows_in Timetbls t
    → service_rows R s ≡ rows_of (row_width Timetbls) t p
service_rows_lem R used s t p g e = rw e g.is

-- whether the leg is right, by the number of stops
pub leg_right : (rs : List Row) (leg n : ℕ) → n ≡ stops_of rs → (b : Bool) → b ≡ (leb 1 leg && ltb leg n) → b ≡ is_leg rs leg
leg_right rs leg n q b h = h ∙ rw q

-- whether the date is right, by the words of DELIVERY's row
pub valid_by : (R : PerFile (List Row)) (d : List Row) (date first last : ℕ) → R.delivery ≡ d → first ≡ words.first_day (first_of d)
    → last ≡ words.last_day (first_of d) → (b : Bool) → b ≡ in_period first date last → b ≡ is_valid R date
valid_by R d date first last e f l b q = q ∙ rw (f, l, ← e)

module _ (R : PerFile (List Row)) (s : ℕ) (right : Bool) (date w : ℕ) (t : List ℕ) (p : Part) (e : service_rows R s ≡ rows_of w t p) where
  pub no_service : p.to ≤ p.from → Err NoService ≡ asked R s right date
  unfolding asked first_test
  no_service h = rw (e, between_none w t p.from p.to h)

  module _ (h : p.from < p.to) where
    pub no_stop : right ≡ false → Err NoStop ≡ asked R s right date
    unfolding asked first_test
    no_stop r = rw (e, between_first w t p.from p.to h, r)

    pub no_date : right ≡ true → is_valid R date ≡ false → Err NoDate ≡ asked R s right date
    unfolding asked first_test
    no_date r v = rw (e, between_first w t p.from p.to h, r, v)

    pub all_right : right ≡ true → is_valid R date ≡ true → Ok tt ≡ asked R s right date
    unfolding asked first_test
    all_right r v = rw (e, between_first w t p.from p.to h, r, v)

-- RUNNING DAY
module _ (R : PerFile (List Row)) (s leg date : ℕ) (rs : List Row) (e : service_rows R s ≡ rs) (right : Bool) (f : right ≡ is_leg rs leg)
    (a : Test) (q : a ≡ asked R s right date) where
  pub running_refused : (r : Reason) → a ≡ Err r → Err r ≡ running_in R s leg date
  unfolding running_in
  running_refused r g = rw (e, ← f, ← q, g)

  pub running_told : a ≡ Ok tt → (day : ℕ) → day ≡ day_on R date → (b : Bool) → b ≡ runs_on R rs leg day → runs b ≡ running_in R s leg date
  unfolding running_in
  running_told g day d b n = rw (e, ← f, ← q, g, ← d, ← n)
