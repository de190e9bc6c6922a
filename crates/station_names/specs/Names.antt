-- A station's name by its bounds.
use Rattle.std.specs.Prelude.{ℕ, ◌+◌, List, None, Ok, Option, Some}
use Rattle.iff.specs.declared.Reason.TheVariants.{NoStation}
use Rattle.iff_desk.specs.Parts.{name_at}
use Rattle.parts.specs.Bounds.{no_part}
use Rattle.parts.specs.declared.Part.{Part}

-- columns 44-73 of the row that begins there
abbrev pub name_from : Option ℕ → Part
name_from (Some i) = record { test = Ok tt; from = i + 43; to = i + 73 }
name_from None = no_part NoStation

unfoldable pub name_part : List ℕ → ℕ → Part
name_part stations short = name_from (name_at stations short)
