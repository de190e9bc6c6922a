-- Legs that are counted once each.
use Rattle.std.specs.Prelude.{ℕ, zero, suc, Bool, true, ◌&&◌, eqb}

-- each of the legs 1 to m is counted once
unfoldable pub once_to : ℕ → (ℕ → ℕ) → Bool
once_to zero count = true
once_to (suc m) count = eqb (count (suc m)) 1 && once_to m count
