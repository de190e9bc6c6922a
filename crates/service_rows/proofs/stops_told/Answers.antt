-- `stops_told` meets its contract: the word of the first row, or none where there is no row. Assumes nothing.
use mathlib.Core.Path.{sym, ◌∙◌}
use native.Mathlib.Omega.{arith}
use Rattle.tables.proofs.Rows.{row_inside}
use Rattle.service_rows.proofs.StopLaws.{no_stops, told_first}
use Rattle.service_rows.proofs.stops_told.Goals as goal

pub word_at-requires : goal.word_at-requires
word_at-requires c =
    (omega arith, row_inside _ c.args.part.from c.args.part.to _ (omega (arith, c.if-part-from.false)) c.requires.0.fits)

pub returns-then-part-from : goal.returns-then-part-from
returns-then-part-from c = no_stops _ c.args.t.now c.args.part.from c.args.part.to c.if-part-from.true

pub returns : goal.returns
returns c =
    c.word_at.ensures
    ∙ told_first _ c.args.t.now c.args.part.from c.args.part.to (omega (arith, c.if-part-from.false))
    ∙ sym c.requires.1
