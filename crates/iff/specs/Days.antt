-- "Days are DDMMYYYY, Gregorian, years 1600 to 9999, first not after last; a table of the days before each month serves."
use Rattle.std.specs.Prelude.{ℕ, zero, suc, ◌+◌, ◌-◌, ◌/◌, ◌%◌, Bool, true, false, cond, ◌&&◌, List, [], ◌∷◌, get_or, eqb, ltb, leb, None, Option, Some}

-- every fourth year but the hundreds that are not four hundreds
unfoldable pub leap_year : ℕ → Bool
leap_year y = cond (eqb (y % 4) 0) (cond (eqb (y % 100) 0) (eqb (y % 400) 0) true) false

-- the days before each month of a year that is no leap year
abbrev pub months : List ℕ
months = 0 ∷ 31 ∷ 59 ∷ 90 ∷ 120 ∷ 151 ∷ 181 ∷ 212 ∷ 243 ∷ 273 ∷ 304 ∷ 334 ∷ []

-- the days before month m, counted from 0
unfoldable pub days_before : ℕ → Bool → ℕ
days_before m leap = cond (ltb m 2) (get_or months m 0) (cond leap (get_or months m 0 + 1) (get_or months m 0))

unfoldable pub year_days : Bool → ℕ
year_days leap = cond leap 366 365

-- the days of month m, counted from 0: up to the next month, or to the year's end
unfoldable pub days_in : ℕ → Bool → ℕ
days_in m leap = cond (eqb m 11) 31 (days_before (m + 1) leap - days_before m leap)

-- the days of the years from 1600 on, k of them
unfoldable pub years_before : ℕ → ℕ
years_before zero = 0
years_before (suc k) = years_before k + year_days (leap_year (1600 + k))

-- day d, month m and year y, all as written; day 0 is 01011600
unfoldable pub day_is : ℕ → ℕ → ℕ → Option ℕ
day_is d m y =
    cond (ltb y 1600) None
    (cond (eqb m 0) None
    (cond (ltb 12 m) None
    (cond (eqb d 0) None
    (cond (ltb (days_in (m - 1) (leap_year y)) d) None
    (Some (years_before (y - 1600) + days_before (m - 1) (leap_year y) + (d - 1)))))))

-- a date is a number DDMMYYYY
unfoldable pub day_of : ℕ → Option ℕ
day_of n = day_is (n / 1000000) (n / 10000 % 100) (n % 10000)

abbrev pub is_day : Option ℕ → Bool
is_day (Some d) = true
is_day None = false

-- "first not after last"
abbrev pub in_turn : Option ℕ → Option ℕ → Bool
in_turn (Some a) (Some b) = leb a b
in_turn (Some a) None = false
in_turn None d = false

unfoldable pub period : ℕ → ℕ → Bool
period first last = in_turn (day_of first) (day_of last)

-- the days from the first to the last, both counted; 0 where there is no such span
abbrev pub span_of : Option ℕ → Option ℕ → ℕ
span_of (Some a) (Some b) = suc b - a
span_of (Some a) None = 0
span_of None d = 0

unfoldable pub span : ℕ → ℕ → ℕ
span first last = span_of (day_of first) (day_of last)

-- "A delivery spans at most 800 days."
abbrev pub longest : ℕ
longest = 800

abbrev pub within : Option ℕ → Option ℕ → Option ℕ → Bool
within (Some a) (Some d) (Some b) = leb a d && leb d b
within (Some a) (Some d) None = false
within (Some a) None b = false
within None d b = false

-- a date lies in a span, its ends counted
unfoldable pub in_period : ℕ → ℕ → ℕ → Bool
in_period first date last = within (day_of first) (day_of date) (day_of last)

-- the date's place in the span, from 0
abbrev pub since : Option ℕ → Option ℕ → ℕ
since (Some a) (Some d) = d - a
since (Some a) None = 0
since None d = 0

unfoldable pub day_in : ℕ → ℕ → ℕ
day_in first date = since (day_of first) (day_of date)
