-- A word of marks without as many bits as there are days left is none where it has no mark beyond them. Assumes nothing.
use native.Mathlib.Omega.{arith}
use borrow.Author.Rules.{rules}
use Rattle.day_marks.proofs.MarkLaws.{few_days, all_days}
use Rattle.day_marks.proofs.fits_days.Goals as goal

pub returns-then-days-ge64 : goal.returns-then-days-ge64
returns-then-days-ge64 c = all_days _ _ (search rules) (omega (arith, c.if-days-ge64.true))

pub returns : goal.returns
returns c = few_days _ _ c.if-days-ge64.false
