-- `is_short` meets its contract: a gap that is not below 0 is a number of minutes. Assumes nothing.
use mathlib.Core.Path.{◌≡◌}
use mathlib.Core.Bool.{Bool}
use lib.IntN.{ℤ, pos}
use lib.Signed.{lt_z}
use mir.Facts.{to_z-of_z, Fits-nat_abs}
use mir.Syntax.{w32}
use mir.Val.{SFits, to_z, of_z}
use Rattle.verdicts.proofs.VerdictLaws.{below_zero, is_number, as_number}
use Rattle.verdicts.proofs.is_short.Goals as goal

-- the test of a signed local is that of the number it holds
tested : (gap : ℤ) (t : Bool) → SFits w32 gap → lt_z (to_z w32 (of_z w32 gap)) (pos 0) ≡ t → lt_z gap (pos 0) ≡ t
tested gap t f e = rw (to_z-of_z f) at e

pub returns-then-gap-lt0 : goal.returns-then-gap-lt0
returns-then-gap-lt0 c = below_zero c.args.gap c.args.needed (tested c.args.gap _ c.ranges.gap c.if-gap-lt0.true)

pub overflow_cast-result : goal.overflow_cast-result
overflow_cast-result c =
    rw (to_z-of_z c.ranges.gap) (is_number c.args.gap (tested c.args.gap _ c.ranges.gap c.if-gap-lt0.false), Fits-nat_abs tt c.ranges.gap)

pub returns : goal.returns
returns c =
    rw (to_z-of_z c.ranges.gap) (as_number c.args.gap c.args.needed (tested c.args.gap _ c.ranges.gap c.if-gap-lt0.false))
