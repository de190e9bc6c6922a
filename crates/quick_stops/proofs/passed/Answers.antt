-- `quick_stops::passed` meets its contract: the law of its fields, and what it names was found. Assumes nothing.
use mathlib.Core.Path.{refl, ap, sym, ◌∙◌}
use native.Mathlib.Omega.{arith}
use borrow.Author.Tests.{not-false}
use Rattle.iff.specs.Columns.{picture_from}
use Rattle.iff.specs.declared.RowFile.TheVariants.{Stations}
use Rattle.iff.specs.declared.File.TheVariants.{Rows}
use Rattle.std.specs.Option.{is_some}
use Rattle.quick_lines.specs.Pictures.{Pictured}
use Rattle.quick_words.proofs.FieldLaws.{nothing, there, passed_told}
use Rattle.quick_stops.proofs.passed.Goals as goal

pub slice_bounds-line-end : goal.slice_bounds-line-end
slice_bounds-line-end c =
    let a = c.args in
    let p : Pictured a.text.now a.at _ = c.looks.ensures (not-false _ c.if-not-looks.false-raw) in
    omega (arith, p.room)

pub returns : goal.returns
unfolding picture_from
returns c h =
    let a = c.args in
    record {
      told =
          passed_told a.text.now a.at _ a.n refl (c.looks.ensures (not-false _ c.if-not-looks.false-raw))
          (sym c.all_blank.ensures ∙ c.if-all_blank.false)
          _ c.code-station.ensures;
      timed = refl;
      met = there (Rows Stations) a.used a.stations.now c.code-station.result _ c.found_by_place.ensures (ap is_some c.in-Some.is);
    }

pub returns-then-not-looks : goal.returns-then-not-looks
returns-then-not-looks c h = nothing _ c.untold.ensures h

pub returns-then-all_blank : goal.returns-then-all_blank
returns-then-all_blank c h = nothing _ c.untold-then-all_blank.ensures h

pub returns-in_default : goal.returns-in_default
returns-in_default c h = nothing _ c.untold-in_default.ensures h
