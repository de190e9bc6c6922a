-- "Unique": what no two records may share.
use Rattle.std.specs.Prelude.{ℕ, List, [], ◌∷◌, Bool, true, false, ◌&&◌, not, cond, eqb}
use Rattle.iff.specs.Lists.{any, has, same}
use Rattle.iff.specs.Lines.{Line}
use Rattle.iff.specs.Columns.{Field, cols, Text, columns}
use Rattle.iff.specs.Days.{day_of, in_turn}
use Rattle.iff.specs.Tables.{Row, word, tag, key_tag, key_word}
use Rattle.iff.specs.Words.{period_first, period_last, from_service, to_service, from_company, from_mode, to_company, to_mode, exception_footnote}
use Rattle.iff.specs.Bytes.{hash}
use Rattle.iff.specs.declared.RowFile.{RowFile}
use Rattle.iff.specs.declared.RowFile.TheVariants.{Company, Country, Trnsmode, Stations}
use Rattle.iff.specs.declared.GroupFile.{GroupFile}
use Rattle.iff.specs.declared.GroupFile.TheVariants.{Timezone, Footnote, Changes, Xfootnote, Xchanges}
use Rattle.iff.specs.declared.File.{File}

-- KEYS: "Company number; country code; mode code; zone; short name; footnote within its file; service; station within CHANGES and within XCHANGES"
-- of the keys before it
unfoldable pub fresh_key : File → List ℕ → Row → Bool
fresh_key f earlier r = cond (eqb (tag r) (key_tag f)) (not (has (word r (key_word f)) earlier)) true

-- TEXTS, which the tables do not keep: "Company code and name; country name; mode text", compared over the whole field
abbrev pub unique_texts : RowFile → List Field
unique_texts Company = cols 5 14 Text ∷ cols 16 45 Text ∷ []
unique_texts Country = cols 8 37 Text ∷ []
unique_texts Trnsmode = cols 6 35 Text ∷ []
unique_texts Stations = []

abbrev pub same_text : Line → Line → Field → Bool
same_text l e t = same (columns l.body t) (columns e.body t)

unfoldable pub fresh_texts : RowFile → List Line → Line → Bool
fresh_texts f earlier l = not (any (λ e. any (same_text l e) (unique_texts f)) earlier)

-- WITHIN A GROUP: "Periods of one zone do not overlap"; "a pair of services under one CHANGES station"; "the four keys with footnote under one XCHANGES station"
abbrev pub overlap : Row → Row → Bool
overlap r e = in_turn (day_of (period_first r)) (day_of (period_last e)) && in_turn (day_of (period_first e)) (day_of (period_last r))

-- the same in each of some words
abbrev pub same_in : List (Row → ℕ) → Row → Row → Bool
same_in [] r e = true
same_in (w ∷ ws) r e = eqb (w r) (w e) && same_in ws r e

abbrev pub same_pair : Row → Row → Bool
same_pair = same_in (from_service ∷ to_service ∷ [])

abbrev pub same_exception : Row → Row → Bool
same_exception = same_in (from_company ∷ from_mode ∷ to_company ∷ to_mode ∷ exception_footnote ∷ [])

abbrev pub clash : GroupFile → Row → Row → Bool
clash Timezone r e = overlap r e
clash Footnote r e = false
clash Changes r e = same_pair r e
clash Xfootnote r e = false
clash Xchanges r e = same_exception r e

-- of the rows of its group after the `#`
unfoldable pub fresh_in_group : GroupFile → List Row → Row → Bool
fresh_in_group f earlier r = cond (eqb (tag r) hash) true (not (any (clash f r) earlier))
