-- `quick_blocks::is_whole` meets its contract. Assumes nothing.
use mathlib.Core.Path.{sym, ◌∙◌}
use mathlib.Core.Bool.{false≢true}
use native.Mathlib.Omega.{arith}
use borrow.Author.Tests.{not-false}
use Rattle.quick_blocks.proofs.is_whole.Goals as goal

pub returns : goal.returns
returns c h =
    record {
      ends = sym c.is_finished.ensures ∙ not-false _ c.if-not-is_finished.false-raw;
      lines = c.if-lines-k.false;
      stops = c.if-stops-n.false;
      right = sym c.are_right.ensures ∙ h;
    }

pub returns-then-not-is_finished : goal.returns-then-not-is_finished
returns-then-not-is_finished c h = absurd (false≢true h)

pub returns-then-lines-k : goal.returns-then-lines-k
returns-then-lines-k c h = absurd (false≢true h)

pub returns-then-stops-n : goal.returns-then-stops-n
returns-then-stops-n c h = absurd (false≢true h)

pub overflow_add-row : goal.overflow_add-row
overflow_add-row c = omega (arith, c.requires.inside, c.well_formed)

pub are_right-requires : goal.are_right-requires
are_right-requires c = c.requires
