-- A table names a key exactly when one of its rows is keyed by it. Assumes nothing.
use Prim.Native.Nat.{ℕ, ◌<◌}
use mathlib.Core.Path.{◌≡◌, sym, ◌∙◌}
use mathlib.Core.List.{List}
use mathlib.Core.Bool.{Bool}
use Rattle.iff.specs.declared.File.{File}
use Rattle.iff.specs.Lists.{has, any}
use Rattle.iff.specs.Tables.{row_width, rows_of_width, rows_in, key_tag, key_word, keyed}
use Rattle.tables.proofs.Widths.{widths}
use Rattle.tables.proofs.Keys.{has_keys}
use Rattle.keys.specs.Lookup.{keys_in}

module _ (f : File) (w tag col : ℕ) (v : w ≡ row_width f) (g : tag ≡ key_tag f) (m : col ≡ key_word f) where
  -- the lookup asks for the file's own tag and word, in rows of its width
  pub key_column : col < w
  key_column = rw (v, m) (widths f).key

  pub named : (t : List ℕ) (k : ℕ) (r : Bool) → r ≡ any (keyed tag col k) (rows_of_width w t) → r ≡ has k (keys_in f t)
  named t k r e = e ∙ rw (v, g, m) (sym (has_keys f k (rows_in f t)))
