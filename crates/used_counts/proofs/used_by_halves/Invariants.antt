-- `used_by_halves` meets its contract: the number of rows in use is from `low` to `high`. Assumes nothing.
use Prim.Native.Nat.{◌-◌}
use Rattle.used_counts.proofs.HalfLaws.{Between}
use Rattle.used_counts.proofs.used_by_halves.Given as goal

abbrev pub invariant-loop-low : goal.invariant-loop-low
invariant-loop-low l = Between l.w l.t l.low l.high

abbrev pub decreases-loop-low : goal.decreases-loop-low
decreases-loop-low l = l.high - l.low
