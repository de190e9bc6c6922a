-- `fresh_in_group` meets its contract: what is left clashes exactly when the whole does. Assumes nothing.
use mathlib.Core.Path.{◌≡◌}
use Rattle.iff.specs.Lists.{any}
use Rattle.iff.specs.Tables.{row_width}
use Rattle.iff.specs.declared.File.TheVariants.{Groups}
use Rattle.iff_rules.specs.Unique.{clash}
use Rattle.keys.specs.Blocks.{rows_between}
use Rattle.clashes.proofs.fresh_in_group.Given as goal

abbrev pub invariant-loop-i : goal.invariant-loop-i
invariant-loop-i l =
    (l.w ≡ row_width (Groups l.file))
    × (any (clash l.file l.row) (rows_between (row_width (Groups l.file)) l.t l.from l.to) ≡ any (clash l.file l.row) (rows_between l.w l.t l.i l.to))
