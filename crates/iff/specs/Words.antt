-- The words of rows by name, each table's as docs/TABLES.md has them. The same names are in the code's `iff::words`.
use Rattle.std.specs.Prelude.{ℕ}
use Rattle.iff.specs.Tables.{Row, word}

-- A FIRST LINE
abbrev pub own_company : Row → ℕ
own_company r = word r 1

abbrev pub first_day : Row → ℕ
first_day r = word r 2

abbrev pub last_day : Row → ℕ
last_day r = word r 3

abbrev pub version : Row → ℕ
version r = word r 4

-- whether the keys of its file rise: 1 or 0
abbrev pub rises : Row → ℕ
rises r = word r 5

-- COMPANY, COUNTRY
abbrev pub company_number : Row → ℕ
company_number r = word r 1

abbrev pub day_turn : Row → ℕ
day_turn r = word r 2

abbrev pub inland : Row → ℕ
inland r = word r 2

-- A PERIOD OF TIMEZONE
abbrev pub hours : Row → ℕ
hours r = word r 1

abbrev pub period_first : Row → ℕ
period_first r = word r 2

abbrev pub period_last : Row → ℕ
period_last r = word r 3

-- STATIONS
abbrev pub change_flag : Row → ℕ
change_flag r = word r 1

abbrev pub short_name : Row → ℕ
short_name r = word r 2

abbrev pub change_time : Row → ℕ
change_time r = word r 3

abbrev pub station_country : Row → ℕ
station_country r = word r 4

abbrev pub station_zone : Row → ℕ
station_zone r = word r 5

-- THE WORD RIGHT BEHIND THE TAG: the key of a row that opens a group or a block, and what a record of a block names
abbrev pub named : Row → ℕ
named r = word r 1

-- A BLOCK'S `#`: its lines and its stops. Any row of TIMETBLS: the line's number in its block
abbrev pub line_count : Row → ℕ
line_count r = word r 2

abbrev pub stop_count : Row → ℕ
stop_count r = word r 3

abbrev pub line_number : Row → ℕ
line_number r = word r 6

-- `%`, and then `-`, `&` and `*`
abbrev pub train_first : Row → ℕ
train_first r = word r 3

abbrev pub train_last : Row → ℕ
train_last r = word r 4

abbrev pub record_first : Row → ℕ
record_first r = word r 2

abbrev pub record_last : Row → ℕ
record_last r = word r 3

abbrev pub attribute_footnote : Row → ℕ
attribute_footnote r = word r 4

-- A STOP'S TIME; of `+`, its arrival and its departure
abbrev pub stop_time_of : Row → ℕ
stop_time_of r = word r 2

abbrev pub arrival : Row → ℕ
arrival r = word r 2

abbrev pub departure : Row → ℕ
departure r = word r 3

-- A PAIR OF CHANGES
abbrev pub from_service : Row → ℕ
from_service r = word r 1

abbrev pub to_service : Row → ℕ
to_service r = word r 2

abbrev pub possibility : Row → ℕ
possibility r = word r 3

-- A ROW OF XCHANGES
abbrev pub from_company : Row → ℕ
from_company r = word r 1

abbrev pub from_mode : Row → ℕ
from_mode r = word r 2

abbrev pub to_company : Row → ℕ
to_company r = word r 3

abbrev pub to_mode : Row → ℕ
to_mode r = word r 4

abbrev pub exception_time : Row → ℕ
exception_time r = word r 5

abbrev pub exception_footnote : Row → ℕ
exception_footnote r = word r 6
