-- A table's rows are its first and those behind it. Assumes nothing.
use Prim.Native.Nat.{ℕ, ◌<◌}
use mathlib.Core.Path.{◌≡◌, refl, ap, sym, ◌∙◌}
use mathlib.Core.List.{List, []}
use mathlib.Core.Bool.{Bool, true, false, ◌&&◌}
use native.Mathlib.Omega.{arith}
use lib.ListN.{length}
use Rattle.iff.specs.Tables.{Row, row_width, rows_in}
use Rattle.iff.specs.declared.File.{File}
use Rattle.iff_rules.specs.Rows.{Context}
use Rattle.iff_desk.specs.Sound.{sound_later}
use Rattle.keys.specs.Blocks.{rows_between}
use Rattle.walks.proofs.TableLaws.{parted, no_rows}
use Rattle.sound_behind.specs.Behind.{behind}

-- a refusal is handed on
pub handed_on : (b x : Bool) → b ≡ false → false ≡ (b && x)
handed_on b x e = rw e

module _ (c : Context) (f : File) (t : List ℕ) (used : ℕ) (e : used ≡ length (rows_in f t)) (b : Bool) (g : b ≡ true) where
  pub nothing_behind : used ≡ 0 → true ≡ (b && behind c f (rows_in f t))
  unfolding behind
  nothing_behind z =
      let m : rows_in f t ≡ [] = no_rows f t used e z in
      rw (g, m)

  pub rows_behind_lem : (used ≡ 0 → ⊥) → sound_later c f (rows_between (row_width f) t 1 used) ≡ (b && behind c f (rows_in f t))
  unfolding behind
  rows_behind_lem z = rw (g, parted f t used e (omega arith))
