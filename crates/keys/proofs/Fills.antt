-- The keys of a table that is filled row by row. Laws of the definitions alone. Assumes nothing.
use Prim.Native.Nat.{ℕ, ◌*◌, ◌≤◌}
use mathlib.Core.Path.{◌≡◌, refl, ap, ◌∙◌}
use mathlib.Core.List.{List, [], ◌∷◌, ◌++◌, map, append-nil}
use mathlib.Core.Bool.{Bool, true, false, cond}
use lib.ListN.{length}
use Rattle.iff.specs.declared.File.{File}
use Rattle.iff.specs.Lists.{kept}
use Rattle.iff.specs.Tables.{Row, word, row_width, fill, key_word, keys_of}
use Rattle.tables.proofs.Widths.{widths}
use Rattle.tables.proofs.Each.{Each}
use Rattle.tables.proofs.Rows.{Used}
use Rattle.tables.proofs.Filled.{rows_in_fill}
use Rattle.keys.specs.Lookup.{keys_in, is_key_row}

-- a filled table names what its rows name
pub keys_in_fill : (f : File) (n : ℕ) (rs : List Row) → Each (Used (row_width f)) rs → length rs * row_width f ≤ n
    → keys_in f (fill (row_width f) n rs) ≡ keys_of f rs
keys_in_fill f n rs u h = ap (keys_of f) (rows_in_fill (row_width f) (widths f).some n rs u h)

module _ (f : File) where
  abbrev key_in : List Row → List ℕ
  key_in rs = map (λ (r : Row). word r (key_word f)) rs

  -- rows and more rows
  pub keys_append : (rs qs : List Row) → keys_of f (rs ++ qs) ≡ keys_of f rs ++ keys_of f qs
  unfolding kept
  keys_append [] qs = refl
  keys_append (r ∷ rs) qs = go (is_key_row f r) (keys_append rs qs)
    where
      go : (b : Bool) → keys_of f (rs ++ qs) ≡ keys_of f rs ++ keys_of f qs
          → key_in (cond b (r ∷ kept (is_key_row f) (rs ++ qs)) (kept (is_key_row f) (rs ++ qs)))
          ≡ key_in (cond b (r ∷ kept (is_key_row f) rs) (kept (is_key_row f) rs)) ++ keys_of f qs
      go true e = ap (λ (l : List ℕ). word r (key_word f) ∷ l) e
      go false e = e

  -- one row more, which names something
  pub keys_next : (rs : List Row) (r : Row) → is_key_row f r ≡ true → keys_of f (rs ++ (r ∷ [])) ≡ keys_of f rs ++ (word r (key_word f) ∷ [])
  unfolding kept
  keys_next rs r e = keys_append rs (r ∷ []) ∙ rw e

  -- or nothing
  pub keys_same : (rs : List Row) (r : Row) → is_key_row f r ≡ false → keys_of f (rs ++ (r ∷ [])) ≡ keys_of f rs
  unfolding kept
  keys_same rs r e = keys_append rs (r ∷ []) ∙ rw (e, append-nil)
