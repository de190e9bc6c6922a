-- The services of blocks: the first ones are put into the index, and of more of them the whole table is asked at the end.
use Rattle.std.specs.Prelude.{ℕ, ◌+◌, ◌*◌, ◌≤◌, ◌<◌, ◌≡◌, List, true, false, length, Option, Some}
use Rattle.iff.specs.Tables.{row_at, row_width, is_hash_row}
use Rattle.iff.specs.declared.File.TheVariants.{Timetbls}
use Rattle.iff_desk.specs.Sound.{distinct}
use Rattle.fresh_keys.specs.declared.KeyRun.{KeyRun}
use Rattle.fresh_keys.specs.Runs.{step_run}
use Rattle.keys.specs.Lookup.{keys_among}
use Rattle.slots.specs.Slots.{key_at}
use Rattle.slot_puts.specs.Puts.{AtRow}
use Rattle.index.specs.Keying.{RowPut}

-- so many are put into the index
abbrev pub most_indexed : ℕ
most_indexed = 65536

-- the service of the block in row i, after `done` others
pub record ServiceAt (t : List ℕ) (done : ℕ) (run : KeyRun) (i : ℕ) (ps : List ℕ) : Type 0 where
  pub room : i * row_width Timetbls + row_width Timetbls ≤ length t
  pub index : done < most_indexed → AtRow Timetbls t run i ps

-- it is put into the index, or the run of the keys alone goes on
pub record ServicePut (t : List ℕ) (done : ℕ) (run : KeyRun) (i : ℕ) (ps qs : List ℕ) (r : Option KeyRun) : Type 0 where
  pub wide : length qs ≡ length ps
  pub put : done < most_indexed → RowPut Timetbls t run i ps qs r
  pub gone : most_indexed ≤ done → r ≡ Some (step_run run (key_at Timetbls t i))

-- after all services, each of which was new where all were put into the index
pub record AllGone (t : List ℕ) (used done : ℕ) : Type 0 where
  pub inside : used * row_width Timetbls ≤ length t
  pub first : is_hash_row (row_at (row_width Timetbls) t 0) ≡ false
  pub new : done ≤ most_indexed → distinct (keys_among Timetbls used t) ≡ true
