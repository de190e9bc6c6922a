-- `block_legs::are_in_range` meets its contract: what is left to ask is the whole. Assumes nothing.
use Rattle.iff.specs.Lines.{lines}
use Rattle.text_lines.specs.Left.{lines_left}
use Rattle.block_legs.proofs.LineLaws.{Ranging}
use Rattle.block_legs.proofs.are_in_range.Given as goal

abbrev pub invariant-loop-line : goal.invariant-loop-line
invariant-loop-line l = Ranging l.form (lines l.block) l.n (lines_left l.line-iterator)
