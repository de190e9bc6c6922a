-- `desk::stop_time` meets its contract: soundness first, which the question then rests on. Assumes nothing.
use mathlib.Core.Path.{◌≡◌, refl, sym, ◌∙◌}
use mathlib.Core.Bool.{true}
use borrow.Author.Tests.{not-true, not-false}
use Rattle.iff.specs.Files.{eleven}
use Rattle.iff.specs.declared.RowFile.TheVariants.{Stations}
use Rattle.iff.specs.declared.GroupFile.TheVariants.{Timezone}
use Rattle.iff.specs.declared.File.TheVariants.{Delivery, Rows, Groups, Timetbls}
use Rattle.iff_desk.specs.Sound.{sound, rows_of_tables}
use Rattle.iff_desk.specs.Stops.{stop_time}
use Rattle.sound_facts.proofs.SoundFacts.{once, few_hours}
use Rattle.desk.proofs.stop_time.Goals as goal

pub returns-then-not-is_sound_by : goal.returns-then-not-is_sound_by
unfolding stop_time
returns-then-not-is_sound_by c =
    let e = sym c.is_sound_by.ensures ∙ not-true _ c.if-not-is_sound_by.true-raw in
    rw e

pub stop_time_there-requires : goal.stop_time_there-requires
stop_time_there-requires c =
    let are_sound : sound (eleven c.args.delivery.now c.args.company.now c.args.country.now c.args.trnsmode.now c.args.timezone.now c.args.stations.now c.args.footnote.now c.args.timetbls.now c.args.changes.now c.args.xfootnote.now c.args.xchanges.now) ≡ true = sym c.is_sound_by.ensures ∙ not-false _ c.if-not-is_sound_by.false-raw in
    let a = c.args in
    let T = eleven a.delivery.now a.company.now a.country.now a.trnsmode.now a.timezone.now a.stations.now a.footnote.now a.timetbls.now a.changes.now a.xfootnote.now a.xchanges.now in
    let s = are_sound in
    (once T s Delivery, once T s (Groups Timezone), once T s (Rows Stations), once T s Timetbls, few_hours T s)

pub returns : goal.returns
unfolding stop_time
returns c =
    let are_sound : sound (eleven c.args.delivery.now c.args.company.now c.args.country.now c.args.trnsmode.now c.args.timezone.now c.args.stations.now c.args.footnote.now c.args.timetbls.now c.args.changes.now c.args.xfootnote.now c.args.xchanges.now) ≡ true = sym c.is_sound_by.ensures ∙ not-false _ c.if-not-is_sound_by.false-raw in
    let a = c.args in
    let T = eleven a.delivery.now a.company.now a.country.now a.trnsmode.now a.timezone.now a.stations.now a.footnote.now a.timetbls.now a.changes.now a.xfootnote.now a.xchanges.now in
    c.stop_time_there.ensures (rows_of_tables T) refl refl refl refl ∙ rw are_sound
