-- `walk_groups` meets its contract: what is left is sound exactly when the whole is. Assumes nothing.
use Prim.Native.Nat.{◌-◌}
use mathlib.Core.Path.{◌≡◌}
use lib.ListN.{length}
use Rattle.group_walks.proofs.WalkLaws.{GroupsWalked}
use Rattle.group_walks.proofs.walk_groups.Given as goal

abbrev pub invariant-loop-i : goal.invariant-loop-i
invariant-loop-i l =
    GroupsWalked l.file l.form l.counts l.companies l.modes l.stations l.services l.xfootnotes l.w l.t l.used l.i × (length l.marks ≡ length l.initial.marks)

abbrev pub decreases-loop-i : goal.decreases-loop-i
decreases-loop-i l = l.used - l.i
