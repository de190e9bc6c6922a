-- `find_key_in` meets its contract: the first of the rows that are left is the first of all. Assumes nothing.
use mathlib.Core.Path.{◌≡◌}
use Rattle.iff.specs.Tables.{keyed, first_row}
use Rattle.tables.proofs.Rest.{rest}
use Rattle.key_rows.proofs.find_key_in.Given as goal

abbrev pub invariant-loop-i : goal.invariant-loop-i
invariant-loop-i l = first_row (keyed l.tag l.col l.key) l.from (rest l.w l.to l.t l.from) ≡ first_row (keyed l.tag l.col l.key) l.i (rest l.w l.to l.t l.i)
