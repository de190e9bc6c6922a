-- `reading::line_number` meets its contract. Assumes nothing.
use native.Mathlib.Omega.{arith}
use Rattle.reading.proofs.line_number.Goals as goal

pub returns : goal.returns
returns c = omega arith
