-- `file_rows::read_short` meets its contract: what is lent for marks has no room for any. Assumes nothing.
use native.Mathlib.Omega.{arith}
use Rattle.file_rows.proofs.read_short.Goals as goal

pub add_rows-requires : goal.add_rows-requires
add_rows-requires c = (c.requires, λ wide. absurd (omega (arith, wide)))
