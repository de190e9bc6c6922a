-- `are_blocks_sound` meets its contract: what is left of the blocks is the whole, and the services before them are in the index, while that has not
-- enough. Assumes nothing.
use Prim.Native.Nat.{◌-◌}
use Rattle.sound_row_walks.specs.Walk.{used_in}
use Rattle.sound_timetbls.proofs.ServiceLaws.{Going}
use Rattle.sound_timetbls.proofs.are_blocks_sound.Given as goal

abbrev pub invariant-loop-i : goal.invariant-loop-i
invariant-loop-i l =
    Going l.counts l.companies l.modes l.stations l.footnotes l.t (used_in l.t) l.initial.places l.done l.run l.i l.places

abbrev pub decreases-loop-i : goal.decreases-loop-i
decreases-loop-i l = l.room - l.i
