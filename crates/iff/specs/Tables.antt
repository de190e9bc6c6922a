-- Tables: lent `u64` slices, a row per line, the first line included; unused places hold zero.
use Rattle.std.specs.Prelude.{ℕ, zero, suc, ◌+◌, ◌-◌, ◌*◌, ◌/◌, List, [], ◌∷◌, ◌++◌, map, Bool, true, ◌&&◌, cond, length, get_or, take, drop, replicate, eqb, ltb, None, Option, Some}
use Rattle.iff.specs.Lists.{all, kept}
use Rattle.iff.specs.Bytes.{hash}
use Rattle.iff.specs.declared.RowFile.{RowFile}
use Rattle.iff.specs.declared.RowFile.TheVariants.{Company, Country, Trnsmode, Stations}
use Rattle.iff.specs.declared.GroupFile.{GroupFile}
use Rattle.iff.specs.declared.GroupFile.TheVariants.{Timezone, Footnote, Changes, Xfootnote, Xchanges}
use Rattle.iff.specs.declared.File.{File}
use Rattle.iff.specs.declared.File.TheVariants.{Delivery, Rows, Groups, Timetbls}

-- a row's words; word 0 is the record's letter, or 1 where it has none, and never 0
abbrev pub Row : Type 0
Row = List ℕ

abbrev pub word : Row → ℕ → ℕ
word r k = get_or r k 0

abbrev pub tag : Row → ℕ
tag r = word r 0

abbrev pub letterless : ℕ
letterless = 1

abbrev pub is_hash_row : Row → Bool
is_hash_row r = eqb (tag r) hash

-- how many words a row of each table has
abbrev pub group_width : GroupFile → ℕ
group_width Timezone = 6
group_width Footnote = 14
group_width Changes = 6
group_width Xfootnote = 14
group_width Xchanges = 7

abbrev pub row_width : File → ℕ
row_width Delivery = 6
row_width (Rows f) = 6
row_width (Groups f) = group_width f
row_width Timetbls = 7

-- "Room is counted in lines; a lent table's length gives it."
abbrev pub room : File → ℕ → ℕ
room f length = length / row_width f

-- some words as a row of w words, the rest zero
unfoldable pub padded : ℕ → List ℕ → Row
padded w ws = ws ++ replicate (w - length ws) 0

-- rows one after the other
unfoldable pub joined : List Row → List ℕ
joined [] = []
joined (r ∷ rs) = r ++ joined rs

-- a table of n words that holds some rows of w words each
unfoldable pub fill : ℕ → ℕ → List Row → List ℕ
fill w n rs = joined rs ++ replicate (n - length rs * w) 0

-- row i of a table, and the table with another row there
abbrev pub row_at : ℕ → List ℕ → ℕ → Row
row_at w t i = take w (drop (i * w) t)

unfoldable pub put_row : ℕ → List ℕ → ℕ → Row → List ℕ
put_row w t i r = take (i * w) t ++ (r ++ drop (i * w + w) t)

-- the rows of a table: up to the first whose first word is 0, n at the most
unfoldable pub rows_up_to : ℕ → ℕ → List ℕ → List Row
rows_up_to w zero t = []
rows_up_to w (suc n) t = cond (eqb (get_or t 0 0) 0) [] (take w t ∷ rows_up_to w n (drop w t))

-- as many as there is room for
abbrev pub rows_of_width : ℕ → List ℕ → List Row
rows_of_width w t = rows_up_to w (length t / w) t

abbrev pub rows_in : File → List ℕ → List Row
rows_in f t = rows_of_width (row_width f) t

-- every word is zero
abbrev pub all_zero : List ℕ → Bool
all_zero t = all (eqb 0) t

-- KEYS: the rows that name something others refer to, and the word that names it
abbrev pub key_tag : File → ℕ
key_tag Delivery = letterless
key_tag (Rows f) = letterless
key_tag (Groups f) = hash
key_tag Timetbls = hash

-- a station's short name stands after its flag
abbrev pub row_key_word : RowFile → ℕ
row_key_word Company = 1
row_key_word Country = 1
row_key_word Trnsmode = 1
row_key_word Stations = 2

abbrev pub key_word : File → ℕ
key_word Delivery = 1
key_word (Rows f) = row_key_word f
key_word (Groups f) = 1
key_word Timetbls = 1

abbrev pub keys_of : File → List Row → List ℕ
keys_of f rs = map (λ r. word r (key_word f)) (kept (λ r. eqb (tag r) (key_tag f)) rs)

-- each number is less than the next
unfoldable pub rising : List ℕ → Bool
rising [] = true
rising (k ∷ []) = true
rising (k ∷ m ∷ ks) = ltb k m && rising (m ∷ ks)

-- a row with this tag and, in word `col`, this key
abbrev pub keyed : ℕ → ℕ → ℕ → Row → Bool
keyed t col key r = eqb (tag r) t && eqb (word r col) key

-- the first row that passes, counted from i
unfoldable pub first_row : (Row → Bool) → ℕ → List Row → Option ℕ
first_row p i [] = None
first_row p i (r ∷ rs) = cond (p r) (Some i) (first_row p (suc i) rs)
