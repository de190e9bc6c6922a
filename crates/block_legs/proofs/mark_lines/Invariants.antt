-- `block_legs::mark_lines` meets its contract: the marks set and those that the lines left will set are all. Assumes nothing.
use Rattle.iff.specs.Lines.{lines}
use Rattle.text_lines.specs.Left.{lines_left}
use Rattle.block_legs.proofs.LineLaws.{MarkingAll}
use Rattle.block_legs.proofs.mark_lines.Given as goal

abbrev pub invariant-loop-line : goal.invariant-loop-line
invariant-loop-line l = MarkingAll l.form (lines l.block) l.initial.marks l.marks l.n l.kind (lines_left l.line-iterator)
