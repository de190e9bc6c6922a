-- "Times. HHMM, hours 00 to 99, minutes 00 to 59. 9999 is no time."
use Rattle.std.specs.Prelude.{ℕ, ◌+◌, ◌*◌, ◌/◌, ◌%◌, Bool, true, false, cond, ◌&&◌, eqb, ltb, ℤ, pos, ◌+ℤ◌, ◌-ℤ◌, None, Option, Some}
use Rattle.iff.specs.declared.LocalMinutes.{LocalMinutes}
use Rattle.iff.specs.declared.ReferenceMinutes.{ReferenceMinutes}

-- four digits are a time
unfoldable pub is_time : ℕ → Bool
is_time t = ltb t 10000 && ltb (t % 100) 60

abbrev pub no_time : ℕ
no_time = 9999

-- a time's minutes; 9999 has none, and 9960 is no time either
unfoldable pub minutes_of : ℕ → Option ℕ
minutes_of t = cond (is_time t) (Some (t / 100 * 60 + t % 100)) None

-- "Day turn is below 2400 with minutes below 60."
unfoldable pub is_turn : ℕ → Bool
is_turn t = ltb t 2400 && ltb (t % 100) 60

-- "in `+` only, for one of the two, it says that nobody alights (arrival) or boards (departure). The arrival is before the departure where both are times."
unfoldable pub interval : ℕ → ℕ → Bool
interval arrival departure =
    cond (eqb arrival no_time) (is_time departure)
    (cond (eqb departure no_time) (is_time arrival)
    (is_time arrival && (is_time departure && ltb arrival departure)))

-- "Reference = local minus the zone's signed hours times 60"; `earlier` is the zone's minus
abbrev pub reference_of : LocalMinutes → Bool → ℕ → ReferenceMinutes
reference_of m true hours = record { 0 = m.0 +ℤ pos (hours * 60) }
reference_of m false hours = record { 0 = m.0 -ℤ pos (hours * 60) }

-- minutes on a day, as minutes from day 0 on
abbrev pub on_day : ReferenceMinutes → ℕ → ℤ
on_day m day = m.0 +ℤ pos (day * 1440)

-- "The gap is B's departure minus A's arrival in reference minutes, 1440 a day."
abbrev pub gap_of : ReferenceMinutes → ℕ → ReferenceMinutes → ℕ → ℤ
gap_of arrival arrival_day departure departure_day = on_day departure departure_day -ℤ on_day arrival arrival_day
