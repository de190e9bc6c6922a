-- `quick_records::transport` meets its contract: the law of its fields, and what it names was found. Assumes nothing.
use mathlib.Core.Path.{refl, ap, sym, ◌∙◌}
use native.Mathlib.Omega.{arith}
use borrow.Author.Tests.{not-false}
use Rattle.iff.specs.Columns.{picture_from}
use Rattle.iff.specs.declared.RowFile.TheVariants.{Trnsmode}
use Rattle.iff.specs.declared.File.TheVariants.{Rows}
use Rattle.std.specs.Option.{is_some}
use Rattle.quick_lines.specs.Pictures.{Pictured}
use Rattle.quick_words.proofs.FieldLaws.{nothing, there, transport_told}
use Rattle.quick_records.proofs.transport.Goals as goal

pub slice_bounds-line-end : goal.slice_bounds-line-end
slice_bounds-line-end c =
    let a = c.args in
    let p : Pictured a.text.now a.at _ = c.looks.ensures (not-false _ c.if-not-looks.false-raw) in
    omega (arith, p.room)

pub returns : goal.returns
unfolding picture_from
returns c h =
    let a = c.args in
    record {
      told =
          transport_told a.text.now a.at _ a.n refl (c.looks.ensures (not-false _ c.if-not-looks.false-raw))
          (sym c.all_blank.ensures ∙ c.if-all_blank.false)
          _ _ _ c.code-mode.ensures c.stop_word-first.ensures c.stop_word-last.ensures;
      timed = refl;
      met = there (Rows Trnsmode) a.used a.modes.now c.code-mode.result _ c.found_by_place.ensures (ap is_some c.in-Some.is);
    }

pub returns-then-not-looks : goal.returns-then-not-looks
returns-then-not-looks c h = nothing _ c.untold.ensures h

pub returns-then-all_blank : goal.returns-then-all_blank
returns-then-all_blank c h = nothing _ c.untold-then-all_blank.ensures h

pub returns-in_default : goal.returns-in_default
returns-in_default c h = nothing _ c.untold-in_default.ensures h
