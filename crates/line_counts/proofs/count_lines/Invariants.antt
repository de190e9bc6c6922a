-- `line_counts::count_lines` meets its contract: the ends counted and those from a run on are all. Assumes nothing.
use Prim.Native.Nat.{◌*◌}
use Rattle.line_counts.proofs.EndLaws.{Counting}
use Rattle.line_counts.proofs.count_lines.Given as goal

abbrev pub invariant-loop-run : goal.invariant-loop-run
invariant-loop-run l = Counting l.text l.last (l.run * 240) l.n
