-- `desk::change` meets its contract: soundness first, which the question then rests on. Assumes nothing.
use mathlib.Core.Path.{◌≡◌, sym, ◌∙◌}
use mathlib.Core.Bool.{true}
use borrow.Author.Tests.{not-true, not-false}
use Rattle.iff.specs.Files.{eleven}
use Rattle.iff_desk.specs.Sound.{sound, rows_of_tables}
use Rattle.iff_desk.specs.Changing.{change}
use Rattle.desk.proofs.ReadyLaws.{leant, own_rows}
use Rattle.desk.proofs.change.Goals as goal

pub returns-then-not-is_sound_by : goal.returns-then-not-is_sound_by
unfolding change
returns-then-not-is_sound_by c =
    let e = sym c.is_sound_by.ensures ∙ not-true _ c.if-not-is_sound_by.true-raw in
    rw e

pub change_there-requires : goal.change_there-requires
change_there-requires c =
    let are_sound : sound (eleven c.args.delivery.now c.args.company.now c.args.country.now c.args.trnsmode.now c.args.timezone.now c.args.stations.now c.args.footnote.now c.args.timetbls.now c.args.changes.now c.args.xfootnote.now c.args.xchanges.now) ≡ true = sym c.is_sound_by.ensures ∙ not-false _ c.if-not-is_sound_by.false-raw in
    let a = c.args in
    let T = eleven a.delivery.now a.company.now a.country.now a.trnsmode.now a.timezone.now a.stations.now a.footnote.now a.timetbls.now a.changes.now a.xfootnote.now a.xchanges.now in
    leant T are_sound

pub returns : goal.returns
unfolding change
returns c =
    let are_sound : sound (eleven c.args.delivery.now c.args.company.now c.args.country.now c.args.trnsmode.now c.args.timezone.now c.args.stations.now c.args.footnote.now c.args.timetbls.now c.args.changes.now c.args.xfootnote.now c.args.xchanges.now) ≡ true = sym c.is_sound_by.ensures ∙ not-false _ c.if-not-is_sound_by.false-raw in
    let a = c.args in
    let T = eleven a.delivery.now a.company.now a.country.now a.trnsmode.now a.timezone.now a.stations.now a.footnote.now a.timetbls.now a.changes.now a.xfootnote.now a.xchanges.now in
    c.change_there.ensures (rows_of_tables T) (own_rows T) ∙ rw are_sound
