-- `pair_in` meets its contract: what is left has the same first pair as the whole. Assumes nothing.
use mathlib.Core.Path.{◌≡◌}
use Rattle.iff.specs.Lists.{kept}
use Rattle.iff.specs.Tables.{group_width}
use Rattle.iff.specs.declared.GroupFile.TheVariants.{Changes}
use Rattle.iff_desk.specs.Changing.{pair_in}
use Rattle.keys.specs.Blocks.{rows_between}
use Rattle.pairs.specs.Rows.{is_pair}
use Rattle.pairs.proofs.pair_in.Given as goal

abbrev pub invariant-loop-i : goal.invariant-loop-i
invariant-loop-i l =
    pair_in (kept (is_pair l.a l.b) (rows_between (group_width Changes) l.t l.from l.to))
    ≡ pair_in (kept (is_pair l.a l.b) (rows_between (group_width Changes) l.t l.i l.to))
