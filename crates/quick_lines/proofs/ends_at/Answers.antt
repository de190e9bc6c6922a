-- `quick_lines::ends_at` meets its contract: CR here, then LF. Assumes nothing.
use native.Mathlib.Omega.{arith}
use borrow.Author.Tests.{eq-eqb, ne_eqb}
use lib.ListN.{get_or}
use Rattle.iff.specs.Bytes.{cr}
use Rattle.quick_lines.proofs.ends_at.Goals as goal

pub returns-then-text-i-ne13 : goal.returns-then-text-i-ne13
returns-then-text-i-ne13 c =
    let a = c.args in
    simp (ne_eqb (get_or a.text.now a.i 0) cr (λ e. omega arith))

pub returns : goal.returns
returns c =
    let a = c.args in
    simp (eq-eqb (get_or a.text.now a.i 0) cr (omega arith))
