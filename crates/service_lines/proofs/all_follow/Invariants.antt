-- `service_lines::all_follow` meets its contract: what is left to ask is the whole. Assumes nothing.
use lib.ListN.{drop}
use Rattle.iff.specs.Lines.{lines}
use Rattle.text_lines.specs.Left.{lines_left}
use Rattle.service_lines.proofs.LinesLaws.{Following}
use Rattle.service_lines.proofs.all_follow.Given as goal

abbrev pub invariant-loop-line : goal.invariant-loop-line
invariant-loop-line l = Following (lines (drop l.from l.block)) (lines_left l.line-iterator)
