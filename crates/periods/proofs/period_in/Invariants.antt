-- `period_in` meets its contract: the first row that holds the day. Assumes nothing.
use mathlib.Core.Path.{◌≡◌}
use mathlib.Core.List.{[]}
use lib.ListN.{get_or}
use Rattle.iff.specs.Lists.{kept}
use Rattle.iff.specs.Tables.{row_width}
use Rattle.iff.specs.declared.GroupFile.TheVariants.{Timezone}
use Rattle.iff.specs.declared.File.TheVariants.{Groups}
use Rattle.iff_desk.specs.Store.{holds}
use Rattle.keys.specs.Blocks.{rows_between}
use Rattle.periods.specs.Held.{first_held}
use Rattle.periods.proofs.period_in.Given as goal

abbrev pub invariant-loop-i : goal.invariant-loop-i
invariant-loop-i l =
    first_held l.day (rows_between (row_width (Groups Timezone)) l.t l.from l.to) ≡ get_or (kept (holds l.day) (rows_between (row_width (Groups Timezone)) l.t l.i l.to)) 0 []
