-- Looking for a line in a text.
use Rattle.std.specs.Prelude.{ℕ, ◌+◌, ◌≤◌, ◌≡◌, List, Bool, None, Option, Some}
use Rattle.iff.specs.Lines.{Line, is_hash}
use Rattle.iff_desk.specs.Parts.{is_station, is_head}
use Rattle.parts.specs.declared.Want.{Want}
use Rattle.parts.specs.declared.Want.TheVariants.{Station, Head, Hash}

-- a line of these bytes, ended or not
abbrev pub bodied : List ℕ → Bool → Line
bodied body ended = record { body = body; ended = ended }

-- the line that is looked for
unfoldable pub wants : Want → Line → Bool
wants (Station short) l = is_station short l
wants (Head service) l = is_head service l
wants Hash l = is_hash l

-- how long such a line is at least
abbrev pub least : Want → ℕ
least (Station short) = 73
least (Head service) = 9
least Hash = 1

abbrev pub Within : Want → ℕ → ℕ → Option ℕ → Type 0
Within w from n (Some i) = (from ≤ i) × (i + least w ≤ n)
Within w from n None = Unit

-- what a search answers: the place by definition, and that such a line lies in the text there
pub record Sought (place : Option ℕ) (w : Want) (from n : ℕ) (r : Option ℕ) : Type 0 where
  pub is : r ≡ place
  pub within : Within w from n r
