-- "Values" and "Times" of a row: what its numbers must be, beyond being digits and codes. The same for a line's row and for a table's.
use Rattle.std.specs.Prelude.{ℕ, Bool, true, ◌&&◌, cond, eqb, ltb, leb}
use Rattle.iff.specs.Bytes.{hash, plus}
use Rattle.iff.specs.Days.{period, span, longest}
use Rattle.iff.specs.Times.{is_time, is_turn, interval}
use Rattle.iff.specs.Tables.{Row, tag}
use Rattle.iff.specs.Words.{first_day, last_day, company_number, day_turn, inland, period_first, period_last, stop_time_of, arrival, departure, possibility}
use Rattle.iff.specs.declared.RowFile.{RowFile}
use Rattle.iff.specs.declared.RowFile.TheVariants.{Company, Country, Trnsmode, Stations}
use Rattle.iff.specs.declared.GroupFile.{GroupFile}
use Rattle.iff.specs.declared.GroupFile.TheVariants.{Timezone, Footnote, Changes, Xfootnote, Xchanges}
use Rattle.iff_rules.specs.Order.{is_stop}

-- "At most 64 modes; at most 998 stops in a service; the line beyond is 5."
abbrev pub most_modes : ℕ
most_modes = 64

abbrev pub most_stops : ℕ
most_stops = 998

-- a first line: "first not after last"; "A delivery spans at most 800 days."
unfoldable pub first_meaning : Row → Bool
first_meaning r = period (first_day r) (last_day r) && leb (span (first_day r) (last_day r)) longest

-- a row of a file of rows, after some rows of it: "Company number is 1 or more. Inland is 0 or 1. Day turn is below 2400 with minutes below 60."
unfoldable pub row_meaning : RowFile → ℕ → Row → Bool
row_meaning Company rows r = leb 1 (company_number r) && is_turn (day_turn r)
row_meaning Country rows r = leb (inland r) 1
row_meaning Trnsmode rows r = ltb rows most_modes
row_meaning Stations rows r = true

-- a row of a group: "Days .. first not after last. Possibility is 00, 01 or 02."
unfoldable pub group_meaning : GroupFile → Row → Bool
group_meaning Timezone r = cond (eqb (tag r) hash) true (period (period_first r) (period_last r))
group_meaning Footnote r = true
group_meaning Changes r = cond (eqb (tag r) hash) true (leb (possibility r) 2)
group_meaning Xfootnote r = true
group_meaning Xchanges r = true

-- a record of a TIMETBLS block, after some stops
unfoldable pub block_meaning : ℕ → Row → Bool
block_meaning stops r =
    cond (is_stop (tag r))
    (ltb stops most_stops && cond (eqb (tag r) plus) (interval (arrival r) (departure r)) (is_time (stop_time_of r)))
    true
