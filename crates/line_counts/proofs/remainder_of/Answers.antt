-- `line_counts::remainder_of` meets its contract, by the last two bytes. Assumes nothing.
use native.Mathlib.Omega.{arith}
use Rattle.line_counts.proofs.EndLaws.{unended_one, no_lf, no_cr, both_there, above}
use Rattle.line_counts.proofs.remainder_of.Goals as goal

pub returns-then-last-eq0 : goal.returns-then-last-eq0
returns-then-last-eq0 c = (unended_one c.args.text.now (omega (arith, c.requires, c.if-last-eq0.true)), omega arith)

pub returns-then-text-last-ne10 : goal.returns-then-text-last-ne10
returns-then-text-last-ne10 c = (no_lf c.args.text.now c.args.last c.requires (above _ c.if-last-eq0.false) c.if-text-last-ne10.true, omega arith)

pub returns-then-text-last-ne13 : goal.returns-then-text-last-ne13
returns-then-text-last-ne13 c = (no_cr c.args.text.now c.args.last c.requires (above _ c.if-last-eq0.false) c.if-text-last-ne13.true, omega arith)

pub returns : goal.returns
returns c = (both_there c.args.text.now c.args.last c.requires (above _ c.if-last-eq0.false) c.if-text-last-ne10.false c.if-text-last-ne13.false, omega arith)
