-- The slots of an index: a row of each key stands in one of those that are tried for the key, and before the first free one. So a free slot says that
-- no row of the key is in those after it, and a key whose row is in none of those before it is new. What stood there before does no harm.
use Rattle.std.specs.Prelude.{ℕ, ◌+◌, ◌≤◌, ◌<◌, ◌≡◌, List, Bool, true, false, ◌&&◌, ltb, length, get_or}
use Rattle.iff.specs.declared.File.{File}
use Rattle.iff.specs.Lists.{has}
use Rattle.iff.specs.Tables.{word, row_width, row_at, key_tag, key_word, keys_of, keyed}
use Rattle.keys.specs.Blocks.{rows_between}
use Rattle.keys.specs.Lookup.{is_key_row}
use Rattle.keys.specs.Places.{probes, place_of}
use Rattle.slots.specs.declared.Met.{Met}
use Rattle.slots.specs.declared.Met.TheVariants.{Free, Taken, Full}

-- the last row whose number fits a slot
abbrev pub last_row : ℕ
last_row = 4294967295

-- a row that names something, and what it names
abbrev pub names_at : File → List ℕ → ℕ → Bool
names_at f t j = is_key_row f (row_at (row_width f) t j)

abbrev pub key_at : File → List ℕ → ℕ → ℕ
key_at f t j = word (row_at (row_width f) t j) (key_word f)

abbrev pub keys_between : File → List ℕ → ℕ → ℕ → List ℕ
keys_between f t from to = keys_of f (rows_between (row_width f) t from to)

-- a row stands in a slot from `from` on and before `to`
pub record PutBefore (ps : List ℕ) (from to row : ℕ) : Type 0 where
  pub at : ℕ
  pub low : from ≤ at
  pub high : at < to
  pub is : get_or ps at 0 ≡ row

-- it stands before each free slot of those that are tried for its key
abbrev pub Stands : ℕ → List ℕ → ℕ → ℕ → Type 0
Stands slots ps key row =
    (s : ℕ) → place_of key slots ≤ s → s < place_of key slots + probes → get_or ps s 0 ≡ 0 → PutBefore ps (place_of key slots) s row

-- so do all rows before row i that name something, as far as their numbers fit and there are slots at all
pub record Index (f : File) (t : List ℕ) (i slots : ℕ) (ps : List ℕ) : Type 0 where
  pub wide : length ps ≡ slots
  pub stands : (j : ℕ) → 0 < j → j < i → names_at f t j ≡ true → j ≤ last_row → probes < slots → Stands slots ps (key_at f t j) j

-- what slots became, where each index in them, of whatever table, is one still
pub record Kept (ps qs : List ℕ) : Type 0 where
  pub keeps : (g : File) (u : List ℕ) (n slots : ℕ) → Index g u n slots ps → Index g u n slots qs

-- A WALK over the slots for a key, by a table's width, tag and word of keys
module _ (w tag col : ℕ) (t : List ℕ) (i key : ℕ) where
  -- a number in a slot is a row of the key before row i
  abbrev pub earlier : ℕ → Bool
  earlier row = ltb row i && keyed tag col key (row_at w t row)

  -- or it is none, and the slot is not free
  pub record Passed (row : ℕ) : Type 0 where
    pub some : 0 < row
    pub other : earlier row ≡ false

  abbrev pub AllPassed : List ℕ → ℕ → ℕ → Type 0
  AllPassed ps from to = (x : ℕ) → from ≤ x → x < to → Passed (get_or ps x 0)

abbrev pub PassedFor : File → List ℕ → ℕ → ℕ → List ℕ → ℕ → ℕ → Type 0
PassedFor f t i key ps from to = AllPassed (row_width f) (key_tag f) (key_word f) t i key ps from to

-- the first free slot for a key, and no row of it before that
pub record FirstFree (f : File) (t : List ℕ) (i key : ℕ) (ps : List ℕ) (from s : ℕ) : Type 0 where
  pub low : from ≤ s
  pub high : s < from + probes
  pub free : get_or ps s 0 ≡ 0
  pub passed : PassedFor f t i key ps from s

-- what a walk over the slots for a key meets
pub record Probed (f : File) (t : List ℕ) (i key : ℕ) (ps : List ℕ) (from : ℕ) (r : Met) : Type 0 where
  pub free : (s : ℕ) → r ≡ Free s → FirstFree f t i key ps from s
  pub taken : r ≡ Taken → has key (keys_between f t 0 i) ≡ true
  pub full : r ≡ Full → PassedFor f t i key ps from (from + probes)
