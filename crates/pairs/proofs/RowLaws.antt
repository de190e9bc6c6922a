-- The loop over a group's rows of CHANGES: what is left is the whole. Assumes nothing.
use Rattle.std.specs.Prelude.{None, Option, Some}
use Prim.Native.Nat.{ℕ, ◌+◌, ◌≤◌, ◌<◌}
use mathlib.Core.Path.{◌≡◌, ap, sym, ◌∙◌}
use mathlib.Core.List.{List}
use mathlib.Core.Bool.{Bool, true, false}
use lib.ListN.{drop}
use Rattle.iff.specs.Lists.{kept}
use Rattle.iff.specs.Words.{possibility}
use Rattle.iff.specs.Files.{PerFile}
use Rattle.iff.specs.Tables.{Row, group_width, row_at, rows_in}
use Rattle.iff.specs.declared.GroupFile.TheVariants.{Changes}
use Rattle.iff.specs.declared.File.TheVariants.{Groups}
use Rattle.iff_desk.specs.Store.{group_of}
use Rattle.iff_desk.specs.Changing.{pair_in, pair_at}
use Rattle.keys.specs.Blocks.{rows_between}
use Rattle.store.proofs.KeptLaws.{kept_none, kept_here, kept_past}
use Rattle.store.specs.Found.{GroupAt}
use Rattle.store.specs.declared.Part.{Part}
use Rattle.pairs.specs.Rows.{is_pair}
use Rattle.pairs.proofs.LaterLaws.{later_rows_lem}

-- the rows that pass, from row i on: the first of them
module _ (p : Row → Bool) (w : ℕ) (t : List ℕ) (to i : ℕ) where
  pub no_pair : to ≤ i → None ≡ pair_in (kept p (rows_between w t i to))
  no_pair h = rw (kept_none p w t to i h)

  module _ (h : i < to) where
    module _ (x : Bool) (e : x ≡ p (row_at w t i)) where
      pub pair_here : x ≡ true → Some (possibility (row_at w t i)) ≡ pair_in (kept p (rows_between w t i to))
      pair_here g = rw (kept_here p w t to i h x e g)

      pub pair_on : x ≡ false → pair_in (kept p (rows_between w t i to)) ≡ pair_in (kept p (rows_between w t (i + 1) to))
      pair_on g = rw (kept_past p w t to i h x e g)

-- the group of a station, after its `#`
module _ (R : PerFile (List Row)) (t : List ℕ) (used station : ℕ) (p : Part) where
  pub pair_of_group : (a b : ℕ) → R.changes ≡ rows_in (Groups Changes) t → GroupAt (Groups Changes) used t station p → (x : Option ℕ)
      → x ≡ pair_in (kept (is_pair a b) (rows_between (group_width Changes) t (p.from + 1) p.to))
      → x ≡ pair_at R station a b
  unfolding pair_at
  pair_of_group a b e g x h =
      h
      ∙ ap (λ (rs : List Row). pair_in (kept (is_pair a b) rs))
      (sym (ap (λ (rs : List Row). drop 1 (group_of station rs)) e ∙ later_rows_lem Changes used t station p g))
