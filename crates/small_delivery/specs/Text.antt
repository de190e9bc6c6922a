-- Deliveries written as lines of text.
use Rattle.std.specs.Prelude.{ℕ, List, [], ◌∷◌, ◌++◌}
use Prim.Native.String.{String}
use Rattle.iff.specs.Bytes.{bytes}

-- lines, each ended by CR LF
unfoldable pub text_of : List (List ℕ) → List ℕ
text_of [] = []
text_of (l ∷ ls) = l ++ (13 ∷ 10 ∷ text_of ls)

unfoldable pub lines_of : List String → List (List ℕ)
lines_of [] = []
lines_of (s ∷ ss) = bytes s ∷ lines_of ss

-- both at once
abbrev pub written : List String → List ℕ
written ss = text_of (lines_of ss)
