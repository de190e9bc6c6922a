-- A zone's periods are the rows behind the first of its group. Assumes nothing.
use Rattle.std.specs.Prelude.{None, Option}
use Prim.Native.Nat.{ℕ, ◌+◌, ◌<◌}
use mathlib.Core.Path.{◌≡◌}
use mathlib.Core.List.{List}
use native.Mathlib.Omega.{arith}
use native.Mathlib.Numerals.{add-one}
use Rattle.iff.specs.Lists.{kept}
use Rattle.iff.specs.Tables.{row_width, rows_in}
use Rattle.iff.specs.declared.GroupFile.TheVariants.{Timezone}
use Rattle.iff.specs.declared.File.TheVariants.{Groups}
use Rattle.iff_desk.specs.Store.{period_of}
use Rattle.keys.specs.Blocks.{rows_between}
use Rattle.walks.proofs.GroupLaws.{between_none, between_first}
use Rattle.store.specs.Found.{GroupAt, RowFor}
use Rattle.store.specs.declared.Part.{Part}
use Rattle.store.proofs.KeptLaws.{row_for_none}
use Rattle.periods.specs.Held.{first_held}

-- THE ROWS BEHIND THE FIRST, of a zone's group
module _ (used : ℕ) (t : List ℕ) (zone day : ℕ) (p : Part) (g : GroupAt (Groups Timezone) used t zone p) where
  abbrev zone_width : ℕ
  zone_width = row_width (Groups Timezone)

  pub period_none : p.from ≡ p.to → RowFor zone_width t (period_of (rows_in (Groups Timezone) t) zone day) None
  unfolding period_of kept
  period_none e = row_for_none zone_width t _ (rw (g.is, between_none zone_width t p.from p.to (omega arith)))

  pub period_in : (p.from ≡ p.to → ⊥) → (o : Option ℕ) → RowFor zone_width t (first_held day (rows_between zone_width t (p.from + 1) p.to)) o
      → RowFor zone_width t (period_of (rows_in (Groups Timezone) t) zone day) o
  unfolding period_of
  period_in n o h =
      let l : p.from < p.to = omega (arith, g.inside.order) in
      record {
        is = rw (g.is, between_first zone_width t p.from p.to l, ← add-one p.from) h.is;
        stands = h.stands;
      }
