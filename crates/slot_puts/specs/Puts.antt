-- The key of one row, put into the index.
use Rattle.std.specs.Prelude.{ℕ, suc, ◌+◌, ◌*◌, ◌≤◌, ◌<◌, ◌≡◌, List, Bool, true, false, not, length}
use Rattle.iff.specs.declared.File.{File}
use Rattle.iff.specs.Lists.{has}
use Rattle.iff.specs.Tables.{row_width}
use Rattle.fresh_keys.specs.declared.KeyRun.{KeyRun}
use Rattle.fresh_keys.specs.Runs.{run_of}
use Rattle.slots.specs.Slots.{names_at, keys_between, Index, Kept}

-- row i, the run of the keys before it, and their rows in the index; row 0 is the first line's, and names nothing
pub record AtRow (f : File) (t : List ℕ) (run : KeyRun) (i : ℕ) (ps : List ℕ) : Type 0 where
  pub some : 0 < i
  pub room : i * row_width f + row_width f ≤ length t
  pub first : names_at f t 0 ≡ false
  pub runs : run ≡ run_of (keys_between f t 0 i)
  pub index : Index f t i (length ps) ps

-- a key of row i is tested, and put into the index where it is new
pub record KeyPut (f : File) (t : List ℕ) (i key : ℕ) (ps qs : List ℕ) (r : Bool) : Type 0 where
  pub wide : length qs ≡ length ps
  pub new : r ≡ not (has key (keys_between f t 0 i))
  pub index : r ≡ true → Index f t (suc i) (length ps) qs
  pub kept : Kept ps qs
