-- `by_needed` meets its contract: the pair of CHANGES comes first. Assumes nothing.
use mathlib.Core.Path.{sym, ◌∙◌}
use mir.Facts.{to_z-of_z}
use Rattle.iff.specs.Words.{change_flag, change_time}
use Rattle.iff_desk.specs.Store.{station_row}
use Rattle.iff_desk.specs.Changing.{pair_at}
use Rattle.needed_times.specs.Needed.{rows_found, best_for}
use Rattle.needed_times.proofs.NeededLaws.{pair_alone, no_pair}
use mir.Syntax.{w32}
use Rattle.needed_times.proofs.by_needed.Goals as goal

pub returns-in-Some : goal.returns-in-Some
returns-in-Some c R e f g h =
    let a = c.args in
    c.core.ensures
    ∙ rw (to_z-of_z {w = w32} c.ranges.gap)
    (pair_alone a.gap (change_flag (station_row R a.a.station))
    (best_for R (rows_found a.timetbls.now a.a) (rows_found a.timetbls.now a.b) a.a.station a.from a.to)
    (change_time (station_row R a.a.station)) (pair_at R a.a.station a.from.service a.to.service) c.in-Some.p
    (sym (c.pair_at-pair.ensures R f) ∙ c.in-Some.is))

pub returns-in-None : goal.returns-in-None
returns-in-None c R e f g h =
    let a = c.args in
    c.without_pair.ensures R e g h
    ∙ rw (to_z-of_z {w = w32} c.ranges.gap)
    (no_pair a.gap (change_flag (station_row R a.a.station))
    (best_for R (rows_found a.timetbls.now a.a) (rows_found a.timetbls.now a.b) a.a.station a.from a.to)
    (change_time (station_row R a.a.station)) (pair_at R a.a.station a.from.service a.to.service)
    (sym (c.pair_at-pair.ensures R f) ∙ c.in-None.is))
