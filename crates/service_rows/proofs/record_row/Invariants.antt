-- `record_row` meets its contract: the first row of its kind that the leg lies in. Assumes nothing.
use mathlib.Core.Path.{◌≡◌}
use mathlib.Core.List.{[]}
use lib.ListN.{get_or}
use Rattle.iff.specs.Lists.{kept}
use Rattle.iff.specs.Tables.{row_width}
use Rattle.iff.specs.declared.File.TheVariants.{Timetbls}
use Rattle.iff_desk.specs.Store.{record_on}
use Rattle.keys.specs.Blocks.{rows_between}
use Rattle.service_rows.specs.Lies.{lies_in}
use Rattle.service_rows.proofs.record_row.Given as goal

abbrev pub invariant-loop-i : goal.invariant-loop-i
invariant-loop-i l =
    record_on l.kind l.leg (rows_between (row_width Timetbls) l.t l.fn.part.from l.fn.part.to)
    ≡ get_or (kept (lies_in l.kind l.leg) (rows_between (row_width Timetbls) l.t l.i l.fn.part.to)) 0 []
