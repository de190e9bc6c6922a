-- `quick_footnotes::validity` meets its contract: the law of its fields, and what it names was found. Assumes nothing.
use mathlib.Core.Path.{refl, ap}
use native.Mathlib.Omega.{arith}
use borrow.Author.Tests.{not-false}
use Rattle.iff.specs.Columns.{picture_from}
use Rattle.iff.specs.declared.GroupFile.TheVariants.{Footnote}
use Rattle.iff.specs.declared.File.TheVariants.{Groups}
use Rattle.std.specs.Option.{is_some}
use Rattle.quick_lines.specs.Pictures.{Pictured}
use Rattle.quick_words.proofs.FieldLaws.{nothing, there, validity_told}
use Rattle.quick_footnotes.proofs.validity.Goals as goal

pub slice_bounds-line-end : goal.slice_bounds-line-end
slice_bounds-line-end c =
    let a = c.args in
    let p : Pictured a.text.now a.at _ = c.looks.ensures (not-false _ c.if-not-looks.false-raw) in
    omega (arith, p.room)

pub returns : goal.returns
unfolding picture_from
returns c h =
    let a = c.args in
    record {
      told =
          validity_told a.text.now a.at _ a.n refl (c.looks.ensures (not-false _ c.if-not-looks.false-raw))
          _ _ _ c.number-footnote.ensures c.stop_word-first.ensures c.stop_word-last.ensures;
      timed = refl;
      met = there (Groups Footnote) a.used a.footnotes.now c.number-footnote.result _ c.found_by_place.ensures (ap is_some c.in-Some.is);
    }

pub returns-then-not-looks : goal.returns-then-not-looks
returns-then-not-looks c h = nothing _ c.untold.ensures h

pub returns-in_default : goal.returns-in_default
returns-in_default c h = nothing _ c.untold-in_default.ensures h
