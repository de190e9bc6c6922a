-- `judged` meets its contract: 15 for the arrival, then for the departure, then the verdict. Assumes nothing.
use Rattle.std.specs.Prelude.{Ok}
use mathlib.Core.Path.{ap, refl, ◌∙◌}
use Rattle.needed_times.specs.Needed.{rows_found}
use Rattle.iff_desk.specs.declared.Change.{Change}
use Rattle.changing.specs.Agree.{ToldOf}
use Rattle.changing.specs.Sides.{stop_found, arrival_from, departure_to}
use Rattle.changing.proofs.ZoneLaws.{told_on_lem}
use Rattle.changing.proofs.CoreLaws.{no_first, no_second, both_told}
use Rattle.changing.proofs.judged.Goals as goal

pub arrival_on-requires : goal.arrival_on-requires
arrival_on-requires c =
    let q = c.requires in
    (q.2.row.stands, q.0.timezone, q.0.stations, q.0.few, c.number_on-alight_number.ensures.1)

pub departure_on-requires : goal.departure_on-requires
departure_on-requires c =
    let q = c.requires in
    (q.3.row.stands, q.0.timezone, q.0.stations, q.0.few, c.number_on-board_number.ensures.1)

pub returns-in_default : goal.returns-in_default
returns-in_default c R z n =
    let arrives : ToldOf c.args.delivery.now c.args.zones.now c.args.stations.now
    (λ R. arrival_from R (stop_found c.args.timetbls.now c.args.a) c.args.a.station c.args.from)
    c.arrival_on.result = told_on_lem c.args.delivery.now c.args.zones.now c.args.stations.now c.args.a.station c.args.from.day _ _
    c.number_on-alight_number.ensures.0 _ c.arrival_on.ensures in
    let a = c.args in
    let d = departure_to R (stop_found a.timetbls.now a.b) a.b.station a.to in
    no_first R (rows_found a.timetbls.now a.a) (rows_found a.timetbls.now a.b) a.a.station a.from a.to _ d _ d
    (arrives.is R z) refl c.in_default.is

pub returns-in_default-departure_on : goal.returns-in_default-departure_on
returns-in_default-departure_on c R z n =
    let arrives : ToldOf c.args.delivery.now c.args.zones.now c.args.stations.now
    (λ R. arrival_from R (stop_found c.args.timetbls.now c.args.a) c.args.a.station c.args.from)
    c.arrival_on.result = told_on_lem c.args.delivery.now c.args.zones.now c.args.stations.now c.args.a.station c.args.from.day _ _
    c.number_on-alight_number.ensures.0 _ c.arrival_on.ensures in
    let departs : ToldOf c.args.delivery.now c.args.zones.now c.args.stations.now
    (λ R. departure_to R (stop_found c.args.timetbls.now c.args.b) c.args.b.station c.args.to)
    c.departure_on.result = told_on_lem c.args.delivery.now c.args.zones.now c.args.stations.now c.args.b.station c.args.to.day _ _
    c.number_on-board_number.ensures.0 _ c.departure_on.ensures in
    let a = c.args in
    no_second R (rows_found a.timetbls.now a.a) (rows_found a.timetbls.now a.b) a.a.station a.from a.to _ _ _ _
    (arrives.is R z) (departs.is R z) _ c.in-Some.is c.in_default-departure_on.is

pub weighed-requires : goal.weighed-requires
weighed-requires c =
    let arrives : ToldOf c.args.delivery.now c.args.zones.now c.args.stations.now
    (λ R. arrival_from R (stop_found c.args.timetbls.now c.args.a) c.args.a.station c.args.from)
    c.arrival_on.result = told_on_lem c.args.delivery.now c.args.zones.now c.args.stations.now c.args.a.station c.args.from.day _ _
    c.number_on-alight_number.ensures.0 _ c.arrival_on.ensures in
    let departs : ToldOf c.args.delivery.now c.args.zones.now c.args.stations.now
    (λ R. departure_to R (stop_found c.args.timetbls.now c.args.b) c.args.b.station c.args.to)
    c.departure_on.result = told_on_lem c.args.delivery.now c.args.zones.now c.args.stations.now c.args.b.station c.args.to.day _ _
    c.number_on-board_number.ensures.0 _ c.departure_on.ensures in
    let q = c.requires in (
      arrives.few _ c.in-Some.is,
      departs.few _ c.in-Some-departure_on.is,
      q.4,
      q.5,
      q.0.stations,
      q.1.changes,
      q.1.xfootnote,
      q.1.xchanges,
      q.2.inside,
      q.3.inside,
      q.1.changes_heads,
      q.1.xchanges_heads,
    )

pub returns : goal.returns
returns c R z n =
    let arrives : ToldOf c.args.delivery.now c.args.zones.now c.args.stations.now
    (λ R. arrival_from R (stop_found c.args.timetbls.now c.args.a) c.args.a.station c.args.from)
    c.arrival_on.result = told_on_lem c.args.delivery.now c.args.zones.now c.args.stations.now c.args.a.station c.args.from.day _ _
    c.number_on-alight_number.ensures.0 _ c.arrival_on.ensures in
    let departs : ToldOf c.args.delivery.now c.args.zones.now c.args.stations.now
    (λ R. departure_to R (stop_found c.args.timetbls.now c.args.b) c.args.b.station c.args.to)
    c.departure_on.result = told_on_lem c.args.delivery.now c.args.zones.now c.args.stations.now c.args.b.station c.args.to.day _ _
    c.number_on-board_number.ensures.0 _ c.departure_on.ensures in
    let a = c.args in
    ap (λ (v : Change). Ok v) (c.weighed.ensures R z.stations n.changes n.xfootnote n.xchanges)
    ∙ both_told R (rows_found a.timetbls.now a.a) (rows_found a.timetbls.now a.b) a.a.station a.from a.to _ _ _ _
    (arrives.is R z) (departs.is R z) _ _ c.in-Some.is c.in-Some-departure_on.is
