-- `best_in` meets its contract: the best of what is left, after the best so far, is the best of the whole. Assumes nothing.
use Rattle.std.specs.Prelude.{None}
use mathlib.Core.Path.{◌≡◌}
use Rattle.iff.specs.Lists.{kept}
use Rattle.iff.specs.Tables.{group_width, rows_in}
use Rattle.iff.specs.declared.GroupFile.TheVariants.{Xfootnote, Xchanges}
use Rattle.iff.specs.declared.File.TheVariants.{Groups}
use Rattle.iff_desk.specs.Changing.{best as best_of}
use Rattle.keys.specs.Blocks.{rows_between}
use Rattle.exception_rows.specs.Rows.{applies_by}
use Rattle.exceptions.proofs.best_in.Given as goal

abbrev pub invariant-loop-i : goal.invariant-loop-i
invariant-loop-i l =
    best_of None (kept (applies_by (rows_in (Groups Xfootnote) l.xfootnotes) l.a l.b l.day) (rows_between (group_width Xchanges) l.t l.from l.to))
    ≡ best_of l.best (kept (applies_by (rows_in (Groups Xfootnote) l.xfootnotes) l.a l.b l.day) (rows_between (group_width Xchanges) l.t l.i l.to))
