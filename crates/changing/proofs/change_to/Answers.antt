-- `change_to` meets its contract: what passes the precheck is on days of validity, and goes to the core. Assumes nothing.
use Rattle.std.proofs.Common.{rules, ◌≡◌, Err}
use Prim.Native.Nat.{ℕ, ◌<◌}
use mathlib.Core.Path.{◌≡◌, refl, ap, sym, ◌∙◌}
use mathlib.Core.List.{List, []}
use Rattle.iff.specs.Days.{longest}
use Rattle.iff.specs.Files.{PerFile, eleven}
use Rattle.iff.specs.Tables.{Row, rows_in}
use Rattle.iff.specs.declared.File.TheVariants.{Delivery, Timetbls}
use Rattle.iff_desk.specs.Changing.{call_of, core_change, precheck, change_after}
use Rattle.iff_desk.specs.declared.Call.{Call}
use Rattle.store.specs.declared.Part.{Part}
use Rattle.changing.specs.Sides.{PartFor, side_of}
use Rattle.changing.proofs.AskLaws.{from_passes, days_few}
use Rattle.changing.proofs.change_to.Goals as goal
use Rattle.iff.specs.Refusals.{Test}

-- rows of those two tables, and none of the other files
rows_of : List ℕ → List ℕ → PerFile (List Row)
rows_of d tt = eleven (rows_in Delivery d) [] [] [] [] [] [] (rows_in Timetbls tt) [] [] []

-- a call's day and its service's rows, where the call is that of a side
day_of : (n : ℕ) (x y : Call) → x ≡ y → y.day < n → x.day < n
day_of n x y e h = rw e h

part_of : (t : List ℕ) (p : Part) (x y : Call) → x ≡ y → PartFor t y.service p → PartFor t x.service p
part_of t p x y e h = rw e h

pub core_change-requires : goal.core_change-requires
unfolding rows_of
core_change-requires c =
    let checked : (R : PerFile (List Row)) (d : R.delivery ≡ rows_in Delivery c.args.delivery.now) (e : R.timetbls ≡ rows_in Timetbls c.args.timetbls.now) → precheck R (side_of c.args.from) (side_of c.args.to) ≡ c.to_part.result = λ R d e. sym (c.to_part.ensures R d e ∙ from_passes R (side_of c.args.from) (side_of c.args.to) (c.requires.2 R d e)) in
    let a = c.args in
    let R = rows_of a.delivery.now a.timetbls.now in
    let q = checked R refl refl ∙ c.in_ok-to_part.was in
    let d = days_few R a.delivery.now refl c.requires.0.days (side_of a.from) (side_of a.to) q in
    let x = c.call_of-a.ensures R refl in
    let y = c.call_of-b.ensures R refl in (
      c.requires.0,
      day_of longest _ _ x d.0,
      day_of longest _ _ y d.1,
      part_of a.timetbls.now a.a_part _ _ x c.requires.1,
      part_of a.timetbls.now c.find_part-b_part.result _ _ y c.find_part-b_part.ensures,
    )

pub returns-in_err-to_part : goal.returns-in_err-to_part
returns-in_err-to_part c R w =
    let checked : (R : PerFile (List Row)) (d : R.delivery ≡ rows_in Delivery c.args.delivery.now) (e : R.timetbls ≡ rows_in Timetbls c.args.timetbls.now) → precheck R (side_of c.args.from) (side_of c.args.to) ≡ c.to_part.result = λ R d e. sym (c.to_part.ensures R d e ∙ from_passes R (side_of c.args.from) (side_of c.args.to) (c.requires.2 R d e)) in
    let a = c.args in
    let handed : c.from_residual.result ≡ Err c.in_err-to_part.field-0.0 = search rules in
    handed ∙ (ap (λ (t : Test). change_after t (core_change R (call_of R (side_of a.from)) (call_of R (side_of a.to))))
    (sym (checked R w.zones.delivery w.timetbls ∙ c.in_err-to_part.was)))

pub returns : goal.returns
returns c R w =
    let checked : (R : PerFile (List Row)) (d : R.delivery ≡ rows_in Delivery c.args.delivery.now) (e : R.timetbls ≡ rows_in Timetbls c.args.timetbls.now) → precheck R (side_of c.args.from) (side_of c.args.to) ≡ c.to_part.result = λ R d e. sym (c.to_part.ensures R d e ∙ from_passes R (side_of c.args.from) (side_of c.args.to) (c.requires.2 R d e)) in
    let a = c.args in
    c.core_change.ensures R w
    ∙ ap (λ (z : Call). core_change R z c.call_of-b.result) (c.call_of-a.ensures R w.zones.delivery)
    ∙ ap (λ (z : Call). core_change R (call_of R (side_of a.from)) z) (c.call_of-b.ensures R w.zones.delivery)
    ∙ ap (λ (t : Test). change_after t (core_change R (call_of R (side_of a.from)) (call_of R (side_of a.to))))
    (sym (checked R w.zones.delivery w.timetbls ∙ c.in_ok-to_part.was))
