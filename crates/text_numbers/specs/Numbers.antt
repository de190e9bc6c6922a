-- Numbers of the texts that no two lines of a file may share, by the columns that they stand in. Any function of a text's bytes serves.
use Rattle.std.specs.Prelude.{ℕ, ◌+◌, ◌-◌, ◌*◌, ◌%◌, List, [], ◌∷◌, ◌++◌, Bool, take, drop}
use Rattle.iff.specs.Lists.{any, has}
use Rattle.iff.specs.Lines.{Line}
use Rattle.iff.specs.declared.RowFile.{RowFile}
use Rattle.iff.specs.declared.RowFile.TheVariants.{Company, Country, Trnsmode, Stations}

-- with one byte more
abbrev pub next_number : ℕ → ℕ → ℕ
next_number n b = n % 4294967296 * 2654435761 + b

-- with a text behind it
unfoldable pub text_number : ℕ → List ℕ → ℕ
text_number n [] = n
text_number n (b ∷ bs) = text_number (next_number n b) bs

-- of columns `from` up to `to`, counted from 0
abbrev pub columns_number : ℕ → ℕ → List ℕ → ℕ
columns_number from to line = text_number 0 (take (to - from) (drop from line))

-- a line's
abbrev pub text_numbers : RowFile → List ℕ → List ℕ
text_numbers Company line = columns_number 4 14 line ∷ columns_number 15 45 line ∷ []
text_numbers Country line = columns_number 7 37 line ∷ []
text_numbers Trnsmode line = columns_number 5 35 line ∷ []
text_numbers Stations line = []

-- those of some lines
unfoldable pub numbers_of : RowFile → List Line → List ℕ
numbers_of f [] = []
numbers_of f (l ∷ ls) = text_numbers f l.body ++ numbers_of f ls

-- some of them are among these
abbrev pub some_in : List ℕ → List ℕ → Bool
some_in numbers ns = any (λ n. has n numbers) ns
