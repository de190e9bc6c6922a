-- A row of a group as a number: rows that clash have the same, so that one whose number has no mark is new to its group; and so with a key.
use Rattle.std.specs.Prelude.{ℕ, ◌+◌, ◌*◌, ◌%◌, ◌≡◌, List, [], ◌∷◌, map, cond, eqb, length}
use Rattle.iff.specs.Bytes.{hash}
use Rattle.iff.specs.Tables.{Row, tag}
use Rattle.iff.specs.Words.{named, from_service, to_service, from_company, from_mode, to_company, to_mode, exception_footnote}
use Rattle.iff.specs.declared.GroupFile.{GroupFile}
use Rattle.iff.specs.declared.GroupFile.TheVariants.{Timezone, Footnote, Changes, Xfootnote, Xchanges}
use Rattle.marks.specs.Marks.{slots, with_marks, Marked}

-- a prime number, below which every word is brought before it is mixed in
abbrev pub prime : ℕ
prime = 2147483647

-- a number with a word mixed in
unfoldable pub stirred : ℕ → ℕ → ℕ
stirred n w = n % prime * 1000003 + w % prime

-- with each of some words
abbrev pub stirred_in : List (Row → ℕ) → ℕ → Row → ℕ
stirred_in [] n r = n
stirred_in (w ∷ ws) n r = stirred_in ws (stirred n (w r)) r

-- the number of a key, brought below the prime again: short names differ in few of their letters, and must differ in the last digits of their numbers
abbrev pub key_number : ℕ → ℕ
key_number k = stirred k 0 % prime

-- the number of a row in the group whose second row is row `from`: of what no two rows of the group may share. Where that is no matter of
-- words that are the same, all rows have one number, which is no key's.
unfoldable pub row_number : GroupFile → ℕ → Row → ℕ
row_number Timezone from r = prime
row_number Footnote from r = prime
row_number Changes from r = stirred_in (from_service ∷ to_service ∷ []) from r
row_number Xfootnote from r = prime
row_number Xchanges from r = stirred_in (from_company ∷ from_mode ∷ to_company ∷ to_mode ∷ exception_footnote ∷ []) from r

-- a `#` is marked by its key, another row by itself
abbrev pub number_in : GroupFile → ℕ → Row → ℕ
number_in f from r = cond (eqb (tag r) hash) (key_number (named r)) (row_number f from r)

-- MARKS, unless there are none: a slice of another length has none
pub record Remembered (f : GroupFile) (keys : List ℕ) (from : ℕ) (rows : List Row) (marks : List ℕ) : Type 0 where
  pub keyed : length marks ≡ slots → Marked marks (map key_number keys)
  pub rowed : length marks ≡ slots → Marked marks (map (row_number f from) rows)

-- with a row more
unfoldable pub with_row : GroupFile → ℕ → Row → List ℕ → List ℕ
with_row f from r marks = cond (eqb (length marks) slots) (with_marks marks (number_in f from r)) marks
