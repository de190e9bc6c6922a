-- The open group: its rows, and what it is after a line.
use Rattle.std.specs.Prelude.{ℕ, ◌+◌, ◌-◌, ◌*◌, ◌≤◌, ◌<◌, ◌≡◌, List, cond, eqb, length, drop}
use Rattle.iff.specs.Bytes.{hash}
use Rattle.iff.specs.Lines.{Line, is_hash}
use Rattle.iff.specs.Tables.{Row, row_width}
use Rattle.iff.specs.declared.GroupFile.{GroupFile}
use Rattle.iff.specs.declared.File.TheVariants.{Groups}
use Rattle.iff.specs.declared.GroupStand.TheVariants.{Opening}
use Rattle.iff_rules.specs.Order.{group_moves, group_stand}
use Rattle.keys.specs.Lookup.{keys_in}
use Rattle.fresh_keys.specs.Runs.{step_run, run_of}
use Rattle.keys.specs.Blocks.{rows_between}
use Rattle.fresh_keys.specs.declared.KeyRun.{KeyRun}
use Rattle.group_marks.specs.Numbers.{Remembered}
use Rattle.open_groups.specs.declared.Open.{Open}

-- its rows: the last of a table of some rows
abbrev pub open_rows : GroupFile → List ℕ → ℕ → ℕ → List Row
open_rows f t rows size = rows_between (row_width (Groups f)) t (rows - size) rows

-- and the place of the second of them
abbrev pub open_from : ℕ → ℕ → ℕ
open_from rows size = rows - size + 1

-- a table of some rows, the last of them the open group's, with room for one more; its keys are marked, and the open group's rows but for its `#`
pub record Beside (f : GroupFile) (rows : ℕ) (g : Open) (t marks : List ℕ) : Type 0 where
  pub part : g.size ≤ rows
  pub few : rows < length t
  pub room : rows * row_width (Groups f) + row_width (Groups f) ≤ length t
  pub stands : g.stand ≡ group_stand (open_rows f t rows g.size)
  pub runs : g.run ≡ run_of (keys_in (Groups f) t)
  pub marked : Remembered f (keys_in (Groups f) t) (open_from rows g.size) (drop 1 (open_rows f t rows g.size)) marks

-- one that has no rows yet, after others with some keys
abbrev pub opening : KeyRun → Open
opening run = record { size = 0; stand = Opening; run = run }

-- the group that a line is put to
abbrev pub group_for : Open → Line → Open
group_for g l = cond (is_hash l) (opening g.run) g

-- with one row more, whose tag and first word are these: a `#` names a key
abbrev pub run_after : KeyRun → ℕ → ℕ → KeyRun
run_after run t key = cond (eqb t hash) (step_run run key) run

abbrev pub open_after : Open → ℕ → ℕ → Open
open_after g t key = record { size = g.size + 1; stand = group_moves g.stand; run = run_after g.run t key }
