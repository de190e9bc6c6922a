-- `block_ends::behind` meets its contract: CR, then LF, right before the place. Assumes nothing.
use native.Mathlib.Omega.{arith}
use Rattle.block_ends.proofs.behind.Goals as goal

pub returns : goal.returns
returns c h =
    record {
      low = omega (arith, c.length_by.ensures);
      high = omega (arith, c.if-text-to.false);
      returns = c.if-text-to-ne13.false;
      feeds = c.if-text-to-ne10.false;
    }

pub returns-then-text-to : goal.returns-then-text-to
returns-then-text-to c h = absurd (omega arith)

pub returns-then-text-to-ne13 : goal.returns-then-text-to-ne13
returns-then-text-to-ne13 c h = absurd (omega arith)

pub returns-then-text-to-ne10 : goal.returns-then-text-to-ne10
returns-then-text-to-ne10 c h = absurd (omega arith)
