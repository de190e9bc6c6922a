-- The record of a kind that a leg lies in, row by row.
use Rattle.std.specs.Prelude.{ℕ, Bool, ◌&&◌, eqb}
use Rattle.iff.specs.Tables.{Row, tag}
use Rattle.iff_rules.specs.Legs.{lies}

-- a row of a kind that a leg lies in
abbrev pub lies_in : ℕ → ℕ → Row → Bool
lies_in kind k r = eqb (tag r) kind && lies k r
