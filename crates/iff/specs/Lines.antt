-- "Lines end in CR LF; a remainder without it counts as a line."
use Rattle.std.specs.Prelude.{ℕ, suc, ◌+◌, List, [], ◌∷◌, ◌++◌, Bool, true, false, ◌&&◌, cond, length, get_or, take, drop, eqb, ltb, None, Option, Some}
use Rattle.iff.specs.Bytes.{cr, lf, hash}

pub record Line : Type 0 where
  pub body : List ℕ
  pub ended : Bool

abbrev pub crlf : ℕ → ℕ → Bool
crlf b c = eqb b cr && eqb c lf

-- b put before the first line
unfoldable pub before : ℕ → List Line → List Line
before b [] = record { body = b ∷ []; ended = false } ∷ []
before b (l ∷ ls) = record { body = b ∷ l.body; ended = l.ended } ∷ ls

unfoldable pub lines : List ℕ → List Line
lines [] = []
lines (b ∷ []) = before b []
lines (b ∷ (c ∷ s)) = cond (crlf b c) (record { body = []; ended = true } ∷ lines s) (before b (lines (c ∷ s)))

-- the bytes of some lines
unfoldable pub text : List Line → List ℕ
text [] = []
text (l ∷ ls) = l.body ++ cond l.ended (cr ∷ lf ∷ text ls) (text ls)

-- the bytes of a line, its end counted
abbrev pub size : Line → ℕ
size l = length l.body + cond l.ended 2 0

-- a line's first byte; 0, which no record has, where the line is empty
abbrev pub letter : Line → ℕ
letter l = get_or l.body 0 0

-- a line beginning '#'
abbrev pub is_hash : Line → Bool
is_hash l = eqb (letter l) hash

abbrev pub no_line : Line
no_line = record { body = []; ended = false }

-- FOR READERS OF LINES, WHERE THEY STAND: the bytes before the first CR LF, or all
unfoldable pub width : List ℕ → ℕ
width [] = 0
width (b ∷ s) = cond (crlf b (get_or s 0 0)) 0 (suc (width s))

-- where the line that starts at i ends, if CR LF ends it
abbrev pub eol_at : List ℕ → ℕ → Option ℕ
eol_at s i = cond (ltb (i + width (drop i s)) (length s)) (Some (i + width (drop i s))) None

-- the first line of a text that is not empty
abbrev pub first_line : List ℕ → Line
first_line s = record { body = take (width s) s; ended = ltb (width s) (length s) }
