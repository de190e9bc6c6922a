-- The test of a row of CHANGES.
use Rattle.std.specs.Prelude.{ℕ, Bool, ◌&&◌, eqb}
use Rattle.iff.specs.Tables.{Row}
use Rattle.iff.specs.Words.{from_service, to_service}

-- a row of CHANGES is that of two services
abbrev pub is_pair : ℕ → ℕ → Row → Bool
is_pair a b r = eqb (from_service r) a && eqb (to_service r) b
