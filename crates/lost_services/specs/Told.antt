-- Whether some slots tell of the services too.
use Rattle.std.specs.Prelude.{ℕ, ◌≡◌, List, Bool, true, length}
use Rattle.iff.specs.declared.File.TheVariants.{Timetbls}
use Rattle.slots.specs.Slots.{Index}

-- where it is said so, they are an index of TIMETBLS
abbrev pub ServicesTold : Bool → ℕ → List ℕ → List ℕ → Type 0
ServicesTold told used tt hs = told ≡ true → Index Timetbls tt used (length hs) hs
