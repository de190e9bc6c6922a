-- `ask_in_line` meets its contract: eight columns are a number, and no slot is added. Assumes nothing.
use Prim.Native.Nat.{ℕ, ◌≤◌}
use mathlib.Core.Path.{◌≡◌, ap}
use mathlib.Core.List.{List}
use native.Mathlib.Omega.{arith}
use lib.ListN.{length, take, drop, length-take}
use Rattle.named_places.proofs.ask_in_line.Goals as goal

-- a part of eight bytes is no longer
few : (r s : List ℕ) → r ≡ take 8 s → length r ≤ 8
few r s e = omega (arith, ap length e, length-take 8 s)

pub number-requires : goal.number-requires
number-requires c =
    few _ (drop 1 c.args.line.now) c.columns_of.ensures

pub number-requires-then-first_byte-eq45 : goal.number-requires-then-first_byte-eq45
number-requires-then-first_byte-eq45 c =
    few _ (drop 10 c.args.line.now) c.columns_of-then-first_byte-eq45.ensures
