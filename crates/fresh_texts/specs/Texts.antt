-- Texts that no two lines of a file may share, by the columns that they stand in.
use Rattle.std.specs.Prelude.{ℕ, ◌-◌, List, Bool, true, false, ◌||◌, take, drop}
use Rattle.iff.specs.Lists.{same}
use Rattle.iff.specs.Lines.{Line}
use Rattle.iff.specs.declared.RowFile.{RowFile}
use Rattle.iff.specs.declared.RowFile.TheVariants.{Company, Country, Trnsmode, Stations}

-- the bytes of a line that was ended
abbrev pub as_line : List ℕ → Line
as_line body = record { body = body; ended = true }

-- columns `from` up to `to` of two lines, counted from 0, are the same
abbrev pub same_columns : ℕ → ℕ → List ℕ → List ℕ → Bool
same_columns from to a b = same (take (to - from) (drop from a)) (take (to - from) (drop from b))

-- two lines share a text that no two may
abbrev pub shares_text : RowFile → List ℕ → List ℕ → Bool
shares_text Company a b = same_columns 4 14 a b || same_columns 15 45 a b
shares_text Country a b = same_columns 7 37 a b
shares_text Trnsmode a b = same_columns 5 35 a b
shares_text Stations a b = false

-- a file has such texts
abbrev pub has_texts : RowFile → Bool
has_texts Company = true
has_texts Country = true
has_texts Trnsmode = true
has_texts Stations = false
