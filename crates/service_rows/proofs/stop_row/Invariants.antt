-- `stop_row` meets its contract: as many stops are passed as stand before it. Assumes nothing.
use mathlib.Core.Path.{◌≡◌}
use mathlib.Core.List.{[]}
use lib.ListN.{get_or}
use Rattle.iff.specs.Lists.{kept}
use Rattle.iff.specs.Tables.{row_width, tag}
use Rattle.iff.specs.declared.File.TheVariants.{Timetbls}
use Rattle.iff_rules.specs.Order.{is_stop}
use Rattle.iff_desk.specs.Store.{stop_at}
use Rattle.keys.specs.Blocks.{rows_between}
use Rattle.service_rows.proofs.stop_row.Given as goal

abbrev pub invariant-loop-i : goal.invariant-loop-i
invariant-loop-i l =
    stop_at (rows_between (row_width Timetbls) l.t l.fn.part.from l.fn.part.to) l.number
    ≡ get_or (kept (λ r. is_stop (tag r)) (rows_between (row_width Timetbls) l.t l.i l.fn.part.to)) l.before []
