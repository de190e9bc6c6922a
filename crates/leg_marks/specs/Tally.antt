-- Marks, one a leg: what marking does to them.
use Rattle.std.specs.Prelude.{ℕ, ◌+◌, ◌≤◌, ◌<◌, ◌≡◌, List, Bool, true, false, get_or}

-- a leg from `low` up to `high` that is counted twice, with the marks that stood
pub record Twice (low high : ℕ) (count : ℕ → ℕ) (was : List ℕ) : Type 0 where
  pub leg : ℕ
  pub from : low ≤ leg
  pub to : leg < high
  pub twice : 1 < get_or was leg 0 + count leg

-- yes: each leg has its count in marks more; no: some leg would be marked twice
pub record Tally (low high : ℕ) (count : ℕ → ℕ) (was is : List ℕ) (r : Bool) : Type 0 where
  pub yes : r ≡ true → (k : ℕ) → get_or is k 0 ≡ get_or was k 0 + count k
  pub no : r ≡ false → Twice low high count was
