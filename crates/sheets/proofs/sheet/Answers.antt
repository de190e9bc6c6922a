-- `sheet` meets its contract: soundness first, which all the rest leans on. Assumes nothing.
use Prim.Native.Nat.{ℕ}
use mathlib.Core.Path.{◌≡◌}
use mathlib.Core.List.{List}
use mathlib.Core.Bool.{true}
use Rattle.iff.specs.Files.{PerFile, eleven}
use Rattle.iff_desk.specs.Sound.{sound, rows_of_tables}
use Rattle.desk.proofs.ReadyLaws.{leant, own_rows}
use Rattle.sheets.proofs.SheetLaws.{tested, told_unsound, told_sound, told_services, not_sound, sheeted}
use Rattle.sheets.proofs.sheet.Goals as goal

pub returns-in_default : goal.returns-in_default
returns-in_default c =
    let lent : PerFile (List ℕ) = let a = c.args in
    eleven a.delivery.now a.company.now a.country.now a.trnsmode.now a.timezone.now a.stations.now a.footnote.now a.timetbls.now
    a.changes.now a.xfootnote.now a.xchanges.now in
    not_sound lent c.args.questions.now c.args.answers.now (told_unsound lent _ _ c.tell_soundness.ensures c.in_default.is)

pub fill_list-requires : goal.fill_list-requires
fill_list-requires c =
    let lent : PerFile (List ℕ) = let a = c.args in
    eleven a.delivery.now a.company.now a.country.now a.trnsmode.now a.timezone.now a.stations.now a.footnote.now a.timetbls.now
    a.changes.now a.xfootnote.now a.xchanges.now in
    let are_sound : sound lent ≡ true = told_sound lent _ _ c.tell_soundness.ensures _ c.in-Some.is in (
      leant lent are_sound,
      tested lent are_sound,
      told_services lent _ _ c.tell_soundness.ensures _ c.in-Some.is,
    )

pub returns : goal.returns
returns c =
    let lent : PerFile (List ℕ) = let a = c.args in
    eleven a.delivery.now a.company.now a.country.now a.trnsmode.now a.timezone.now a.stations.now a.footnote.now a.timetbls.now
    a.changes.now a.xfootnote.now a.xchanges.now in
    let are_sound : sound lent ≡ true = told_sound lent _ _ c.tell_soundness.ensures _ c.in-Some.is in
    sheeted lent c.args.questions.now c.args.answers.now are_sound _ _
    (c.fill_list.ensures (rows_of_tables lent) (own_rows lent))
