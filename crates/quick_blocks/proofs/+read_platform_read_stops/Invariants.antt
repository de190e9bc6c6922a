-- `quick_blocks::read_platform` and `quick_blocks::read_stops` meet their contracts. What is left of the text falls; at one place of it a reader of
-- stops comes before a reader of platforms. The loop's invariant: the lines left do what all lines were to do. Assumes nothing.
use Prim.Native.Nat.{◌+◌, ◌*◌, ◌-◌}
use lib.ListN.{length}
use Rattle.block_lines.specs.Lines.{keys_from}
use Rattle.quick_blocks.proofs.DriveLaws.{Driving}
use Rattle.quick_blocks.proofs.+read_platform_read_stops.Given as goal

abbrev pub decreases-read_platform : goal.decreases-read_platform
decreases-read_platform l = 2 * (length l.block.now - l.at)

abbrev pub decreases-read_stops : goal.decreases-read_stops
decreases-read_stops l = 2 * (length l.block.now - l.from) + 1

abbrev pub invariant-read_stops-loop-at : goal.invariant-read_stops-loop-at
invariant-read_stops-loop-at l =
    Driving l.form (keys_from l.form l.counts l.companies l.modes l.stations l.footnotes) l.block l.n l.k l.row l.initial.t l.initial.at l.initial.st l.initial.done l.t l.at l.st l.done

abbrev pub decreases-read_stops-loop-at : goal.decreases-read_stops-loop-at
decreases-read_stops-loop-at l = length l.block - l.at
