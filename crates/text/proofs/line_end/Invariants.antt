-- `text::line_end` meets its contract. The loop's invariant: the line's end lies as far from `at` as what `width` says from i on. Assumes nothing.
use Rattle.text.proofs.LineLaws.{Looking}
use Rattle.text.proofs.line_end.Given as goal

abbrev pub invariant-loop-i : goal.invariant-loop-i
invariant-loop-i l = Looking l.text l.at l.i
