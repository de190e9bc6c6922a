-- A station's group after its `#`, in files of pairs and of exceptions. Assumes nothing.
use Prim.Native.Nat.{ℕ, ◌+◌}
use mathlib.Core.Path.{◌≡◌, refl, ap, ◌∙◌}
use mathlib.Core.List.{List}
use mathlib.Core.Bool.{Bool, true, false}
use native.Mathlib.Numerals.{add-one}
use native.Mathlib.Omega.{arith}
use borrow.Author.Tests.{ltb-true, ltb-false}
use lib.Dec.{ltb}
use lib.ListN.{drop}
use Rattle.iff.specs.Tables.{Row, group_width, rows_in}
use Rattle.iff.specs.declared.GroupFile.{GroupFile}
use Rattle.iff.specs.declared.File.TheVariants.{Groups}
use Rattle.iff_desk.specs.Store.{group_of}
use Rattle.keys.specs.Blocks.{rows_between}
use Rattle.walks.proofs.GroupLaws.{between_none, between_first}
use Rattle.store.specs.Found.{GroupAt}
use Rattle.store.specs.declared.Part.{Part}

-- a group's rows after its `#`
pub after_head : (w : ℕ) (t : List ℕ) (from to : ℕ) → drop 1 (rows_between w t from to) ≡ rows_between w t (from + 1) to
after_head w t from to = go (ltb from to) refl
  where
    go : (b : Bool) → ltb from to ≡ b → drop 1 (rows_between w t from to) ≡ rows_between w t (from + 1) to
    go true q = rw (between_first w t from to (ltb-true from to q), add-one)
    go false q =
        let h = ltb-false from to q in
        rw (between_none w t from to h, between_none w t (from + 1) to (omega arith))

-- THE GROUP OF A STATION, after its `#`: the part of the table that was found, less its first row
pub later_rows_lem : (f : GroupFile) (used : ℕ) (t : List ℕ) (station : ℕ) (p : Part) → GroupAt (Groups f) used t station p
    → drop 1 (group_of station (rows_in (Groups f) t)) ≡ rows_between (group_width f) t (p.from + 1) p.to
later_rows_lem f used t station p g = ap (λ (rs : List Row). drop 1 rs) g.is ∙ after_head (group_width f) t p.from p.to
