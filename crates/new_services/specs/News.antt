-- What is told of a block's service, and what is remembered of it.
use Rattle.std.specs.Prelude.{ℕ, ◌≡◌, List, Bool, true, not}
use Rattle.iff.specs.Lists.{has}
use Rattle.iff.specs.declared.File.TheVariants.{Timetbls}
use Rattle.fresh_keys.specs.declared.KeyRun.{KeyRun}
use Rattle.keys.specs.Lookup.{keys_in}
use Rattle.fresh_keys.specs.Runs.{step_run}
use Rattle.marks.specs.Marks.{with_marks}
use Rattle.new_services.specs.declared.Newness.{Newness}

-- whether a service is new, and whether that was found out, as it is where a search is asked for
pub record NewTold (search : Bool) (t : List ℕ) (service : ℕ) (r : Newness) : Type 0 where
  pub exact : r.told ≡ true → r.fresh ≡ not (has service (keys_in Timetbls t))
  pub asked : search ≡ true → r.told ≡ true

-- A SERVICE THAT IS REMEMBERED, with its mark
pub record Remembered (run : KeyRun) (was : List ℕ) (service : ℕ) (is : List ℕ) (r : KeyRun) : Type 0 where
  pub next : r ≡ step_run run service
  pub marks : is ≡ with_marks was service
