-- WHERE A SERVICE THAT IS HELD STANDS: by the numbers of its rows in TIMETBLS, and by its place among the blocks.
use Rattle.std.specs.Prelude.{ℕ, ◌≡◌, List, false, length, take}
use Rattle.iff.specs.Lists.{has}
use Rattle.iff.specs.Tables.{row_width, rows_in, keys_of}
use Rattle.iff.specs.declared.File.TheVariants.{Timetbls}
use Rattle.iff_desk.specs.Amend.{place_of, rows_before, rows_behind}
use Rattle.keys.specs.Blocks.{rows_between}

-- the services before row `from`
abbrev pub services_before : List ℕ → ℕ → List ℕ
services_before t from = keys_of Timetbls (rows_between (row_width Timetbls) t 0 from)

-- its rows are those from `from` on and before `to`; the rows before and behind them are those of the blocks before and behind it, and none before it
-- names the service
pub record Placed (s used : ℕ) (t : List ℕ) (from to : ℕ) : Type 0 where
  pub place : place_of s (rows_in Timetbls t) ≡ length (services_before t from)
  pub before : rows_before (place_of s (rows_in Timetbls t)) (rows_in Timetbls t) ≡ rows_between (row_width Timetbls) t 0 from
  pub behind : rows_behind (place_of s (rows_in Timetbls t)) (rows_in Timetbls t) ≡ rows_between (row_width Timetbls) t to used
  pub seen : take (place_of s (rows_in Timetbls t)) (keys_of Timetbls (rows_in Timetbls t)) ≡ services_before t from
  pub new : has s (services_before t from) ≡ false
