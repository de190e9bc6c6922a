-- What the questions read of a loaded store: a service's rows, its stops and records, a station's row, a zone's period, a footnote's vector.
use Rattle.std.specs.Prelude.{ℕ, ◌+◌, ◌-◌, ◌/◌, ◌%◌, ◌^◌, List, [], ◌∷◌, Bool, true, false, not, get_or, drop, eqb, None, Option, Some}
use Rattle.iff.specs.Lists.{Group, groups, members, kept}
use Rattle.iff.specs.Files.{PerFile}
use Rattle.iff.specs.Days.{in_period, day_in, day_of, within}
use Rattle.iff.specs.Tables.{Row, word, tag, is_hash_row, keyed, key_tag, key_word}
use Rattle.iff.specs.Words as words
use Rattle.iff.specs.Words.{named, period_first, period_last, station_zone}
use Rattle.iff.specs.declared.RowFile.TheVariants.{Stations}
use Rattle.iff.specs.declared.File.TheVariants.{Rows}
use Rattle.iff_rules.specs.Order.{is_stop}
use Rattle.iff_rules.specs.Rows.{first_of}
use Rattle.iff_rules.specs.Legs.{lies, of_kind}

abbrev pub no_row : Row
no_row = []

-- the rows of the first group with a key: a service's block, a zone's periods, a footnote's vector; none where it is not there
abbrev pub rows_of_groups : List (Group Row) → List Row
rows_of_groups [] = []
rows_of_groups (g ∷ gs) = members g

unfoldable pub group_of : ℕ → List Row → List Row
group_of k rs = rows_of_groups (kept (λ g. eqb (named g.top) k) (groups is_hash_row rs))

abbrev pub is_empty : List Row → Bool
is_empty [] = true
is_empty (r ∷ rs) = false

-- a service's rows
abbrev pub service_rows : PerFile (List Row) → ℕ → List Row
service_rows R s = group_of s R.timetbls

-- stop i, from 1
unfoldable pub stop_at : List Row → ℕ → Row
stop_at rs i = get_or (kept (λ r. is_stop (tag r)) rs) (i - 1) no_row

-- the record of a kind that leg k lies in
unfoldable pub record_on : ℕ → ℕ → List Row → Row
record_on kind k rs = first_of (kept (lies k) (of_kind kind rs))

-- the row of a station
unfoldable pub station_row : PerFile (List Row) → ℕ → Row
station_row R k = first_of (kept (keyed (key_tag (Rows Stations)) (key_word (Rows Stations)) k) R.stations)

-- the days of validity
abbrev pub first_day : PerFile (List Row) → ℕ
first_day R = words.first_day (first_of R.delivery)

abbrev pub last_day : PerFile (List Row) → ℕ
last_day R = words.last_day (first_of R.delivery)

-- "14 not a date, or outside validity"
abbrev pub is_valid : PerFile (List Row) → ℕ → Bool
is_valid R date = in_period (first_day R) date (last_day R)

-- the number of a day
abbrev pub day_number : Option ℕ → ℕ
day_number (Some n) = n
day_number None = 0

-- "counted from the first day"
abbrev pub day_on : PerFile (List Row) → ℕ → ℕ
day_on R date = day_in (first_day R) date

-- a vector has 1 on day d
unfoldable pub marked : Row → ℕ → Bool
marked v d = eqb (word v (1 + d / 64) / 2 ^ (d % 64) % 2) 1

-- the vector of a footnote
abbrev pub vector_of : List Row → ℕ → Row
vector_of rs k = get_or (group_of k rs) 1 no_row

-- a day of validity, counted from the first day, as a day's number
abbrev pub number_on : PerFile (List Row) → ℕ → ℕ
number_on R d = day_number (day_of (first_day R)) + d

-- a zone's period holds a day
unfoldable pub holds : ℕ → Row → Bool
holds day r = within (day_of (period_first r)) (Some day) (day_of (period_last r))

-- the period of a zone that holds a day
unfoldable pub period_of : List Row → ℕ → ℕ → Row
period_of rs zone day = first_of (kept (holds day) (drop 1 (group_of zone rs)))

-- of a station's own zone
abbrev pub period_at : PerFile (List Row) → ℕ → ℕ → Row
period_at R station day = period_of R.timezone (station_zone (station_row R station)) day

abbrev pub is_there : Row → Bool
is_there r = not (eqb (tag r) 0)
