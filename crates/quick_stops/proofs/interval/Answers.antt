-- `quick_stops::interval` meets its contract: the law of its fields, and what it names was found. Assumes nothing.
use Prim.Native.Nat.{◌<◌}
use mathlib.Core.Path.{refl, ap, sym, ◌∙◌}
use native.Mathlib.Omega.{arith}
use borrow.Author.Tests.{not-false}
use Rattle.iff.specs.Columns.{picture_from}
use Rattle.iff.specs.Times.{interval}
use Rattle.iff.specs.declared.RowFile.TheVariants.{Stations}
use Rattle.iff.specs.declared.File.TheVariants.{Rows}
use Rattle.iff_rules.specs.Meaning.{most_stops}
use Rattle.std.specs.Option.{is_some}
use Rattle.quick_lines.specs.Pictures.{Pictured}
use Rattle.quick_words.proofs.FieldLaws.{nothing, there, in_time, interval_told}
use Rattle.quick_stops.proofs.interval.Goals as goal

pub slice_bounds-line-end : goal.slice_bounds-line-end
slice_bounds-line-end c =
    let a = c.args in
    let p : Pictured a.text.now a.at _ = c.looks.ensures (not-false _ c.if-not-looks.false-raw) in
    omega (arith, p.room)

pub returns : goal.returns
unfolding picture_from
returns c h =
    let a = c.args in
    let few : a.stops < most_stops = omega (arith, c.if-stops-ge-MOST_STOPS.false) in
    record {
      told =
          interval_told a.text.now a.at _ a.n refl (c.looks.ensures (not-false _ c.if-not-looks.false-raw))
          (sym c.all_blank.ensures ∙ c.if-all_blank.false)
          _ _ _ c.code-station.ensures c.number-arrival.ensures c.number-departure.ensures;
      timed = in_time a.stops _ (interval c.number-arrival.result c.number-departure.result) few c.is_interval.ensures (not-false _ c.if-not-is_interval.false-raw);
      met = there (Rows Stations) a.used a.stations.now c.code-station.result _ c.found_by_place.ensures (ap is_some c.in-Some.is);
    }

pub returns-then-not-looks : goal.returns-then-not-looks
returns-then-not-looks c h = nothing _ c.untold.ensures h

pub returns-then-all_blank : goal.returns-then-all_blank
returns-then-all_blank c h = nothing _ c.untold-then-all_blank.ensures h

pub returns-then-stops-ge-MOST_STOPS : goal.returns-then-stops-ge-MOST_STOPS
returns-then-stops-ge-MOST_STOPS c h = nothing _ c.untold-then-stops-ge-MOST_STOPS.ensures h

pub returns-then-not-is_interval : goal.returns-then-not-is_interval
returns-then-not-is_interval c h = nothing _ c.untold-then-not-is_interval.ensures h

pub returns-in_default : goal.returns-in_default
returns-in_default c h = nothing _ c.untold-in_default.ensures h
