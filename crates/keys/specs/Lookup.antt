-- The keys that a table holds.
use Rattle.std.specs.Prelude.{ℕ, ◌/◌, ◌<◌, ◌≡◌, List, Bool, true, false, cond, eqb, ltb, length, None, Option, Some}
use Rattle.iff.specs.declared.File.{File}
use Rattle.iff.specs.Lists.{has}
use Rattle.iff.specs.Tables.{Row, tag, row_width, row_at, rows_in, key_tag, key_word, keys_of, keyed}
use Rattle.keys.specs.Blocks.{rows_between}

-- what a file's table names
abbrev pub keys_in : File → List ℕ → List ℕ
keys_in f t = keys_of f (rows_in f t)

abbrev pub is_key_row : File → Row → Bool
is_key_row f r = eqb (tag r) (key_tag f)

-- THE FIRST ROWS of a table, for a caller who has counted those in use: no row before them need be read to know that one of them is in use
abbrev pub at_most : ℕ → ℕ → ℕ
at_most n most = cond (ltb n most) n most

-- the first n, as far as there is room for them
abbrev pub rows_among : ℕ → ℕ → List ℕ → List Row
rows_among w n t = rows_between w t 0 (at_most n (length t / w))

unfoldable pub keys_among : File → ℕ → List ℕ → List ℕ
keys_among f n t = keys_of f (rows_among (row_width f) n t)

-- A ROW OF A KEY: one of the first rows, which names it
pub record KeyRow (f : File) (used : ℕ) (t : List ℕ) (key i : ℕ) : Type 0 where
  pub inside : i < at_most used (length t / row_width f)
  pub names : keyed (key_tag f) (key_word f) key (row_at (row_width f) t i) ≡ true

-- what a search answers that may miss
pub record HitRow (f : File) (used : ℕ) (t : List ℕ) (key : ℕ) (r : Option ℕ) : Type 0 where
  pub found : (i : ℕ) → r ≡ Some i → KeyRow f used t key i

-- what a lookup answers: such a row, or that no row names the key
pub record FoundRow (f : File) (used : ℕ) (t : List ℕ) (key : ℕ) (r : Option ℕ) : Type 0 where
  pub found : (i : ℕ) → r ≡ Some i → KeyRow f used t key i
  pub none : r ≡ None → has key (keys_among f used t) ≡ false
