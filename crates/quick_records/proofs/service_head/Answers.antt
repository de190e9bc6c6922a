-- `quick_records::service_head` meets its contract: the law of its fields. Assumes nothing.
use mathlib.Core.Path.{refl}
use native.Mathlib.Omega.{arith}
use borrow.Author.Tests.{not-false}
use Rattle.iff.specs.Columns.{picture_from}
use Rattle.quick_lines.specs.Pictures.{Pictured}
use Rattle.quick_words.proofs.FieldLaws.{nothing, service_told}
use Rattle.quick_records.proofs.service_head.Goals as goal

pub slice_bounds-line-end : goal.slice_bounds-line-end
slice_bounds-line-end c =
    let a = c.args in
    let p : Pictured a.text.now a.at _ = c.looks.ensures (not-false _ c.if-not-looks.false-raw) in
    omega (arith, p.room)

pub returns : goal.returns
unfolding picture_from
returns c h =
    let a = c.args in
    service_told a.text.now a.at _ a.n refl (c.looks.ensures (not-false _ c.if-not-looks.false-raw))
    a.k _ c.number-service.ensures

pub returns-then-not-looks : goal.returns-then-not-looks
returns-then-not-looks c h = nothing _ c.untold.ensures h
