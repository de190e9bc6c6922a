-- The open group with a row more. Assumes nothing.
use Prim.Native.Nat.{ℕ, ◌+◌}
use mathlib.Core.Path.{◌≡◌}
use Rattle.iff.specs.declared.GroupStand.{GroupStand}
use Rattle.iff_rules.specs.Order.{group_moves}
use Rattle.fresh_keys.specs.declared.KeyRun.{KeyRun}
use Rattle.open_groups.specs.Open.{run_after, open_after}
use Rattle.open_groups.specs.declared.Open.{Open}

-- the group after it: where it stands, and its keys
pub one_more : (g : Open) (t key : ℕ) (s : GroupStand) (run : KeyRun) → s ≡ group_moves g.stand → run ≡ run_after g.run t key
    → record { size = g.size + 1; stand = s; run = run } ≡ open_after g t key
one_more g t key s run e k = rw (e, k)
