-- What a field asks of its word.
use Rattle.std.specs.Prelude.{ℕ, ◌^◌, ◌≤◌, Bool, true, ◌||◌, eqb, ltb}
use Rattle.iff.specs.Columns.{on}
use Rattle.iff.specs.Values.{code_of, wildcard, code_right}

-- so many columns as a number or a code has
pub record Digits (width : ℕ) : Type 0 where
  pub some : 1 ≤ width
  pub few : width ≤ 8

-- a word fits a field of a class, as the table of fields has it: 'n', 's', 'a', 'c'
unfoldable pub word_fits : ℕ → ℕ → ℕ → Bool
word_fits k width w =
    on k 110 (ltb w (10 ^ width)) (on k 115 true (on k 97 (ltb w (10 ^ width) || eqb w (code_of (wildcard width))) (code_right width w)))
