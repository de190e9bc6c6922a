-- The loop over a group's rows of XCHANGES: what is left is the whole. Assumes nothing.
use Rattle.std.specs.Prelude.{None, Option}
use Prim.Native.Nat.{ℕ, ◌+◌, ◌≤◌, ◌<◌}
use mathlib.Core.Path.{◌≡◌, refl, ap, sym, ◌∙◌}
use mathlib.Core.List.{List}
use mathlib.Core.Bool.{Bool, true, false}
use lib.ListN.{drop}
use Rattle.iff.specs.Lists.{kept}
use Rattle.iff.specs.Files.{PerFile}
use Rattle.iff.specs.Tables.{Row, group_width, row_at, rows_in}
use Rattle.iff.specs.declared.GroupFile.TheVariants.{Xfootnote, Xchanges}
use Rattle.iff.specs.declared.File.TheVariants.{Groups}
use Rattle.iff_desk.specs.Store.{group_of}
use Rattle.iff_desk.specs.Changing.{applies, best, best_at}
use Rattle.iff_desk.specs.declared.Riding.{Riding}
use Rattle.keys.specs.Blocks.{rows_between}
use Rattle.store.proofs.KeptLaws.{kept_none, kept_here, kept_past}
use Rattle.store.specs.Found.{GroupAt}
use Rattle.store.specs.declared.Part.{Part}
use Rattle.pairs.proofs.LaterLaws.{later_rows_lem}
use Rattle.exception_rows.specs.Rows.{applies_by, best_with}
use Rattle.iff_desk.specs.declared.Best.{Best}

-- the rows that pass, from row i on: the best of them
module _ (p : Row → Bool) (w : ℕ) (t : List ℕ) (to i : ℕ) where
  pub best_none : (b : Option Best) → to ≤ i → b ≡ best b (kept p (rows_between w t i to))
  unfolding best
  best_none b h = rw (kept_none p w t to i h)

  module _ (h : i < to) where
    pub best_on : (b : Option Best) → best b (kept p (rows_between w t i to)) ≡ best (best_with p b (row_at w t i)) (kept p (rows_between w t (i + 1) to))
    unfolding best
    best_on b = go (p (row_at w t i)) refl
      where
        go : (x : Bool) → p (row_at w t i) ≡ x
            → best b (kept p (rows_between w t i to)) ≡ best (best_with p b (row_at w t i)) (kept p (rows_between w t (i + 1) to))
        go true q = rw (kept_here p w t to i h true (sym q) refl, q)
        go false q = rw (kept_past p w t to i h false (sym q) refl, q)

-- the group of a station, after its `#`
module _ (R : PerFile (List Row)) (t : List ℕ) (used station : ℕ) (p : Part) where
  pub best_of_group : (xf : List ℕ) (a b : Riding) (d : ℕ) → R.xchanges ≡ rows_in (Groups Xchanges) t → R.xfootnote ≡ rows_in (Groups Xfootnote) xf
      → GroupAt (Groups Xchanges) used t station p → (x : Option Best)
      → x ≡ best None (kept (applies_by (rows_in (Groups Xfootnote) xf) a b d) (rows_between (group_width Xchanges) t (p.from + 1) p.to))
      → x ≡ best_at R station a b d
  unfolding best_at applies
  best_of_group xf a b d e q g x h =
      h
      ∙ ap (λ (fs : List Row). best None (kept (applies_by fs a b d) (rows_between (group_width Xchanges) t (p.from + 1) p.to))) (sym q)
      ∙ ap (λ (rs : List Row). best None (kept (applies_by R.xfootnote a b d) rs))
      (sym (ap (λ (rs : List Row). drop 1 (group_of station rs)) e ∙ later_rows_lem Xchanges used t station p g))
