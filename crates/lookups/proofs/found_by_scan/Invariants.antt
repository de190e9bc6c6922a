-- `found_by_scan` meets its contract: the row that is found was tested, and at the end none is left. Assumes nothing.
use mathlib.Core.Path.{◌≡◌}
use Rattle.iff.specs.Lists.{any}
use Rattle.iff.specs.Tables.{keyed}
use Rattle.keys.specs.Blocks.{rows_between}
use Rattle.lookups.proofs.found_by_scan.Given as goal

abbrev pub invariant-loop-i : goal.invariant-loop-i
invariant-loop-i l =
    any (keyed l.tag l.col l.key) (rows_between l.w l.t 0 l.rows) ≡ any (keyed l.tag l.col l.key) (rows_between l.w l.t l.i l.rows)
