-- What marks say of a file's lines where there is room for them.
use Rattle.std.specs.Prelude.{ℕ, ◌+◌, ◌*◌, ◌/◌, ◌%◌, ◌≡◌, List, [], ◌∷◌, ◌++◌, length}
use Rattle.iff.specs.declared.RowFile.{RowFile}
use Rattle.marks.specs.Marks.{slots, Marked}
use Rattle.text_numbers.specs.Numbers.{text_numbers}

-- a key's number: any function of the key serves
abbrev pub spread_of : ℕ → ℕ
spread_of key = (key % 4294967296 * 2654435761 + key / 4294967296 * 1597334677) / 65536

-- some numbers are marked, if anything is
abbrev pub Remembers : List ℕ → List ℕ → Type 0
Remembers marks numbers = length marks ≡ slots → Marked marks numbers

-- a line's key and its texts are remembered beside any that were
pub record LineMarked (f : RowFile) (line : List ℕ) (key : ℕ) (was is : List ℕ) : Type 0 where
  pub keys : (numbers : List ℕ) → Remembers was numbers → Remembers is (numbers ++ (spread_of key ∷ []))
  pub texts : (numbers : List ℕ) → Remembers was numbers → Remembers is (numbers ++ text_numbers f line)
