-- Parts of a text by their bounds.
use Rattle.std.specs.Prelude.{ℕ, ◌-◌, ◌≤◌, List, length, take, drop, Err}
use Rattle.iff.specs.declared.Reason.{Reason}
use Rattle.parts.specs.declared.Part.{Part}

-- the part of a text from a byte on and before another
abbrev pub part_of : List ℕ → ℕ → ℕ → List ℕ
part_of t from to = take (to - from) (drop from t)

pub record Inside (t : List ℕ) (p : Part) : Type 0 where
  pub low : p.from ≤ p.to
  pub high : p.to ≤ length t

abbrev pub no_part : Reason → Part
no_part why = record { test = Err why; from = 0; to = 0 }
