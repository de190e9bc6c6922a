-- `walk_class` meets its contract: before each block, the services of the class that were met are in the set, and none of them came twice. Assumes
-- nothing.
use Prim.Native.Nat.{◌-◌}
use lib.ListN.{length}
use Rattle.key_classes.specs.Classes.{Walking}
use Rattle.key_classes.proofs.walk_class.Given as goal

abbrev pub invariant-loop-i : goal.invariant-loop-i
invariant-loop-i l = Walking l.classes l.class l.used l.upto l.t (length l.initial.set) l.met l.i l.set

abbrev pub decreases-loop-i : goal.decreases-loop-i
decreases-loop-i l = l.used - l.i
