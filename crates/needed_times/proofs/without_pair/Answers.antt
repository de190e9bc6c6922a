-- `without_pair` meets its contract: the station's flag, then the best exception and the station's time. Assumes nothing.
use mathlib.Core.Path.{◌≡◌, refl, ap, sym, ◌∙◌}
use mathlib.Core.List.{List}
use borrow.Author.Rules.{rules}
use mir.Facts.{to_z-of_z}
use Rattle.iff.specs.Files.{PerFile, per_file}
use Rattle.iff.specs.Tables.{Row, row_width, rows_in}
use Rattle.iff.specs.Words.{change_flag, change_time}
use Rattle.iff.specs.declared.RowFile.TheVariants.{Stations}
use Rattle.iff.specs.declared.File.TheVariants.{Rows}
use Rattle.iff_desk.specs.Store.{station_row}
use Rattle.store.specs.Found.{Stands}
use Rattle.needed_times.specs.Needed.{rows_found, best_for}
use Rattle.needed_times.proofs.NeededLaws.{same_verdict, flag_alone}
use mir.Syntax.{w32}
use Rattle.needed_times.proofs.without_pair.Goals as goal

pub returns-then-flag-eq0 : goal.returns-then-flag-eq0
returns-then-flag-eq0 c R e f g =
    let flag_is : (R : PerFile (List Row)) → R.stations ≡ rows_in (Rows Stations) c.args.stations.now
    → change_flag (station_row R c.args.a.station) ≡ c.word_of-flag.result = λ R e. ap change_flag (c.find_station-row.ensures R e).is ∙ sym c.word_of-flag.ensures in
    let a = c.args in
    c.core.ensures
    ∙ rw (to_z-of_z {w = w32} c.ranges.gap)
    (flag_alone a.gap (change_flag (station_row R a.a.station))
    (best_for R (rows_found a.timetbls.now a.a) (rows_found a.timetbls.now a.b) a.a.station a.from a.to)
    (change_time (station_row R a.a.station)) (flag_is R e ∙ c.if-flag-eq0.true))

pub returns : goal.returns
returns c R e f g =
    let flag_is : (R : PerFile (List Row)) → R.stations ≡ rows_in (Rows Stations) c.args.stations.now
    → change_flag (station_row R c.args.a.station) ≡ c.word_of-flag.result = λ R e. ap change_flag (c.find_station-row.ensures R e).is ∙ sym c.word_of-flag.ensures in
    c.core-2.ensures
    ∙ rw (to_z-of_z {w = w32} c.ranges.gap)
    (same_verdict c.args.gap c.word_of-flag.result _ c.best_for-best.result _ c.word_of-time.result _ (sym (flag_is R e)) (c.best_for-best.ensures R f g)
    (c.word_of-time.ensures ∙ ap change_time (sym (c.find_station-row.ensures R e).is)))

pub word_of-flag-requires : goal.word_of-flag-requires
word_of-flag-requires c =
    let stands : Stands (row_width (Rows Stations)) c.args.stations.now c.find_station-row.result = (c.find_station-row.ensures (per_file (λ f. rows_in f c.args.stations.now)) refl).stands in
    (search rules, stands)

pub word_of-time-requires : goal.word_of-time-requires
word_of-time-requires c =
    let stands : Stands (row_width (Rows Stations)) c.args.stations.now c.find_station-row.result = (c.find_station-row.ensures (per_file (λ f. rows_in f c.args.stations.now)) refl).stands in
    (search rules, stands)
