-- Laws of a station's name by its bounds. Assumes nothing.
use Rattle.std.specs.Prelude.{Err, None, Option, Some}
use Prim.Native.Nat.{ℕ, ◌+◌, ◌-◌}
use mathlib.Core.Path.{◌≡◌, refl}
use mathlib.Core.List.{List}
use native.Mathlib.Omega.{arith}
use Rattle.iff_desk.specs.Parts.{found, name_at, columns44_to73, name, name_test}
use Rattle.iff.specs.declared.Reason.TheVariants.{NoStation}
use Rattle.parts.specs.Bounds.{part_of}
use Rattle.station_names.specs.Names.{name_from, name_part}

-- A NAME by its bounds
module _ (t : List ℕ) (short : ℕ) where
  pub name_holds : part_of t (name_part t short).from (name_part t short).to ≡ name t short
  unfolding name_part name
  name_holds = go (name_at t short)
    where
      go : (o : Option ℕ) → part_of t (name_from o).from (name_from o).to ≡ columns44_to73 t o
      go (Some i) = let k : i + 73 - (i + 43) ≡ 30 = omega arith in rw k
      go None = refl

  pub name_tested : (name_part t short).test ≡ name_test t short
  unfolding name_part name_test
  name_tested = go (name_at t short)
    where
      go : (o : Option ℕ) → (name_from o).test ≡ found o (Err NoStation)
      go (Some i) = refl
      go None = refl
