-- `is_marked` meets its contract: a footnote's vector is the second row of its group. Assumes nothing.
use mathlib.Core.Path.{◌∙◌}
use Rattle.iff.specs.declared.File.TheVariants.{Groups}
use Rattle.iff_desk.specs.Store.{marked}
use Rattle.vectors.proofs.SecondLaws.{second_stands, second_is}
use Rattle.vectors.proofs.is_marked.Goals as goal

pub mark_word-marks-requires : goal.mark_word-marks-requires
mark_word-marks-requires c =
    let a = c.args in
    second_stands (Groups a.file) a.used a.t.now a.footnote _ c.find_group-part.ensures _ c.row_width-w.ensures.is _
    c.second_row-row.ensures

pub returns : goal.returns
unfolding marked
returns c =
    let a = c.args in
    c.bit_of.ensures
    ∙ rw (
      c.mark_word-marks.ensures,
      c.second_row-row.ensures,
      c.row_width-w.ensures.is,
      second_is (Groups a.file) a.used a.t.now a.footnote c.find_group-part.result c.find_group-part.ensures,
    )
