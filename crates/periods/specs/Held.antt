-- The period of a day among a zone's.
use Rattle.std.specs.Prelude.{ℕ, List}
use Rattle.iff.specs.Lists.{kept}
use Rattle.iff.specs.Tables.{Row}
use Rattle.iff_rules.specs.Rows.{first_of}
use Rattle.iff_desk.specs.Store.{holds}

-- the first of some periods that holds a day
abbrev pub first_held : ℕ → List Row → Row
first_held day rs = first_of (kept (holds day) rs)
