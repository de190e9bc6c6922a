-- A row's tag as the letter of a line.
use Rattle.std.specs.Prelude.{ℕ, ◌<◌, ◌≡◌, eqb}

-- a tag and a letter are those of the same record: either is this or that byte, other than 0, exactly where the other is
pub record SameLetter (tag letter : ℕ) : Type 0 where
  pub same : (k : ℕ) → 0 < k → k < 256 → eqb tag k ≡ eqb letter k
