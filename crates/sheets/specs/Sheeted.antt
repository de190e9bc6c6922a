-- What a sheet promises: what it answers, and what it leaves in the lent list.
use Rattle.std.specs.Prelude.{ℕ, ◌≡◌, List}
use Rattle.iff.specs.Files.{PerFile}
use Rattle.iff_desk.specs.Sheet.{sheet_test}
use Rattle.sheet_answers.specs.Words.{sheet_list}
use Rattle.iff.specs.Refusals.{Test}

pub record Sheeted (T : PerFile (List ℕ)) (qs list : List ℕ) (r : Test) (after : List ℕ) : Type 0 where
  pub tells : r ≡ sheet_test T qs list
  pub leaves : after ≡ sheet_list T qs list
