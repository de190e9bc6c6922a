-- `row_marks::are_texts_new` meets its contract: texts whose numbers are not marked have not come. Assumes nothing.
use Rattle.iff.specs.Lines.{lines}
use Rattle.fresh_texts.specs.Texts.{as_line}
use Rattle.text_numbers.specs.Numbers.{numbers_of}
use Rattle.text_numbers.proofs.NumberLaws.{new_texts}
use Rattle.row_marks.proofs.are_texts_new.Goals as goal

pub returns-then-are_texts_unmarked : goal.returns-then-are_texts_unmarked
returns-then-are_texts_unmarked c =
    let a = c.args in
    let before = lines a.before.now in
    new_texts a.file before (as_line a.line.now)
    (c.are_texts_unmarked.ensures (numbers_of a.file before) (c.requires c.if-marks-eq-MARKS.true) c.if-are_texts_unmarked.true)
