-- `first_lines::put_first` meets its contract. Assumes nothing.
use mathlib.Core.Path.{ap}
use native.Mathlib.Omega.{arith}
use lib.ListN.{length-set}
use Rattle.iff.specs.Columns.{form424}
use Rattle.iff.specs.Tables.{row_width}
use Rattle.iff_rules.specs.Rows.{line_one}
use Rattle.tables.proofs.Widths.{widths}
use Rattle.first_lines.proofs.HeadLaws.{row_legible, row_flagged, row_numbered}
use Rattle.first_lines.proofs.put_first.Goals as goal

pub bounds-row-5 : goal.bounds-row-5
bounds-row-5 c =
    omega (arith, (widths c.args.file).wide, c.requires.width, c.put_words.auto.out)

pub bounds-row-6 : goal.bounds-row-6
bounds-row-6 c =
    simp length-set (omega (arith, ap row_width c.in-Timetbls.is, c.requires.width, c.put_words.auto.out))

pub returns-in-Delivery : goal.returns-in-Delivery
returns-in-Delivery c =
    row_flagged (form424 0) c.args.file c.args.rises c.args.line.now _ c.args.row.now c.requires.width c.put_words.ensures _
    c.flag_of.ensures (ap line_one c.in-Delivery.is)

pub returns-in-Rows : goal.returns-in-Rows
returns-in-Rows c =
    row_flagged (form424 0) c.args.file c.args.rises c.args.line.now _ c.args.row.now c.requires.width c.put_words.ensures _
    c.flag_of.ensures (ap line_one c.in-Rows.is)

pub returns-in-Groups : goal.returns-in-Groups
returns-in-Groups c =
    row_flagged (form424 0) c.args.file c.args.rises c.args.line.now _ c.args.row.now c.requires.width c.put_words.ensures _
    c.flag_of.ensures (ap line_one c.in-Groups.is)

pub returns-in-Timetbls : goal.returns-in-Timetbls
returns-in-Timetbls c =
    row_numbered (form424 0) c.args.file c.args.rises c.args.line.now _ c.args.row.now c.requires.width c.put_words.ensures _
    c.flag_of.ensures c.in-Timetbls.is

pub put_words-requires : goal.put_words-requires
put_words-requires c = row_legible (form424 0) c.args.file _ _ c.requires

pub shape_of-row-in-Delivery : goal.shape_of-row-in-Delivery
shape_of-row-in-Delivery c = simp length-set c.put_words.auto.out

pub shape_of-row-in-Rows : goal.shape_of-row-in-Rows
shape_of-row-in-Rows c = simp length-set c.put_words.auto.out

pub shape_of-row-in-Groups : goal.shape_of-row-in-Groups
shape_of-row-in-Groups c = simp length-set c.put_words.auto.out

pub shape_of-row-in-Timetbls : goal.shape_of-row-in-Timetbls
shape_of-row-in-Timetbls c = simp length-set c.put_words.auto.out
