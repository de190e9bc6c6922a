-- The ends of lines in a text.
use Rattle.std.specs.Prelude.{ℕ, ◌+◌, List, [], ◌∷◌, Bool, true, false, cond, get_or}
use Rattle.iff.specs.Lines.{crlf}

abbrev pub one : Bool → ℕ
one true = 1
one false = 0

-- how often CR LF stands in it
unfoldable pub ends : List ℕ → ℕ
ends [] = 0
ends (b ∷ s) = one (crlf b (get_or s 0 0)) + ends s

-- 1 where something stands behind the last of them
unfoldable pub unended : List ℕ → ℕ
unended [] = 0
unended (b ∷ []) = 1
unended (b ∷ c ∷ []) = cond (crlf b c) 0 1
unended (b ∷ c ∷ d ∷ s) = unended (c ∷ d ∷ s)
