-- The rows of a table gone through: what is left of them decides what is told of them all.
use Rattle.std.specs.Prelude.{ℕ, suc, ◌<◌, ◌≡◌, List, Bool, true, false, not, length, None, Option, Some}
use Rattle.iff.specs.declared.File.{File}
use Rattle.iff.specs.Lists.{has}
use Rattle.iff.specs.Refusals.{after}
use Rattle.iff_desk.specs.Sound.{distinct, passes, followed_by}
use Rattle.fresh_keys.specs.declared.KeyRun.{KeyRun}
use Rattle.keys.specs.Lookup.{keys_among}
use Rattle.fresh_keys.specs.Runs.{step_run, run_of}
use Rattle.index.specs.Told.{KeysTold}
use Rattle.index.specs.declared.KeysAre.{KeysAre}
use Rattle.slots.specs.Slots.{keys_between, Index, Kept}

-- some keys are new after others
abbrev pub all_new : List ℕ → List ℕ → Bool
all_new seen ks = passes (λ seen k. not (has k seen)) followed_by seen ks

-- after the rows before row i: the keys of all rows are those of the rows from i on, after the others
pub record Told (f : File) (used : ℕ) (t : List ℕ) (run : KeyRun) (i : ℕ) : Type 0 where
  pub new : distinct (keys_among f used t) ≡ all_new (keys_between f t 0 i) (keys_between f t i used)
  pub rises : run_of (keys_among f used t) ≡ after step_run run (keys_between f t i used)

-- one row more
pub record RowPut (f : File) (t : List ℕ) (run : KeyRun) (i : ℕ) (ps qs : List ℕ) (r : Option KeyRun) : Type 0 where
  pub wide : length qs ≡ length ps
  pub came : r ≡ None → (used : ℕ) → i < used → Told f used t run i → distinct (keys_among f used t) ≡ false
  pub told : (next : KeyRun) → r ≡ Some next → (used : ℕ) → i < used → Told f used t run i → Told f used t next (suc i)
  pub runs : (next : KeyRun) → r ≡ Some next → run ≡ run_of (keys_between f t 0 i) → next ≡ run_of (keys_between f t 0 (suc i))
  pub index : (next : KeyRun) → r ≡ Some next → Index f t (suc i) (length ps) qs
  pub kept : Kept ps qs

-- before row i, in slots that were so many at first
pub record Indexed (f : File) (used : ℕ) (t ps : List ℕ) (run : KeyRun) (i : ℕ) (qs : List ℕ) : Type 0 where
  pub some : 0 < i
  pub told : Told f used t run i
  pub runs : run ≡ run_of (keys_between f t 0 i)
  pub index : Index f t i (length ps) qs
  pub kept : Kept ps qs

-- after all rows: where no key comes again each key's row is in the slots, and an index that they held is in them still
abbrev pub KeysPut : File → ℕ → List ℕ → List ℕ → List ℕ → KeysAre → Type 0
KeysPut f used t ps qs r =
    KeysTold (keys_among f used t) r × (length qs ≡ length ps) × (r.distinct ≡ true → Index f t used (length ps) qs) × Kept ps qs
