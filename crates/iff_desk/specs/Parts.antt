-- "Name" and "Lines now": parts of the lent texts.
use Rattle.std.specs.Prelude.{ℕ, ◌+◌, ◌-◌, List, [], ◌∷◌, Bool, false, ◌&&◌, ◌||◌, not, cond, length, take, drop, eqb, Err, None, Ok, Option, Some}
use Rattle.iff.specs.Bytes.{at, digit}
use Rattle.iff.specs.Lists.{all}
use Rattle.iff.specs.Lines.{Line, lines, letter, is_hash, size}
use Rattle.iff.specs.Columns.{cols, Number, Code, columns}
use Rattle.iff.specs.Values.{number_of, code_of}
use Rattle.iff.specs.declared.Reason.TheVariants.{NoService, NoStation}
use Rattle.iff.specs.Refusals.{Test}

-- where the first line that passes begins, of lines that begin at i
unfoldable pub seek : (Line → Bool) → ℕ → List Line → Option ℕ
seek p i [] = None
seek p i (l ∷ ls) = cond (p l) (Some i) (seek p (i + size l) ls)

-- the same after the first line
unfoldable pub seek_after : (Line → Bool) → ℕ → List Line → Option ℕ
seek_after p i [] = None
seek_after p i (l ∷ ls) = seek p (i + size l) ls

-- NAME: "the first row of 73 bytes, after the first line, with that short name"
unfoldable pub is_station : ℕ → Line → Bool
is_station short l = eqb (length l.body) 73 && eqb (code_of (columns l.body (cols 3 9 Code))) short

abbrev pub name_at : List ℕ → ℕ → Option ℕ
name_at stations short = seek_after (is_station short) 0 (lines stations)

-- "the part of the lent STATIONS file that holds columns 44-73"; "else 17 and an empty part"
abbrev pub columns44_to73 : List ℕ → Option ℕ → List ℕ
columns44_to73 t (Some i) = take 30 (drop (i + 43) t)
columns44_to73 t None = []

unfoldable pub name : List ℕ → ℕ → List ℕ
name stations short = columns44_to73 stations (name_at stations short)

abbrev pub found : Option ℕ → Test → Test
found (Some i) t = Ok tt
found None t = t

unfoldable pub name_test : List ℕ → ℕ → Test
name_test stations short = found (name_at stations short) (Err NoStation)

-- "`#` and that service's eight digits alone", ended or not
unfoldable pub is_head : ℕ → Line → Bool
is_head service l =
    eqb (length l.body) 9
    && (is_hash l
    && (all digit (columns l.body (cols 2 9 Number))
    && eqb (number_of (columns l.body (cols 2 9 Number))) service))

-- 11's test: "the block ends in CR LF, its first line is `#` and that service's eight digits alone, and no other line begins `#` or `@`"
abbrev pub inner : Line → Bool
inner l = not (is_hash l || eqb (letter l) at)

unfoldable pub is_one_block : ℕ → List Line → Bool
is_one_block service [] = false
is_one_block service (l ∷ ls) = all (λ x. x.ended) (l ∷ ls) && (is_head service l && all inner ls)

-- LINES NOW: "a part of the block if it passes 11's test for that service, else of the text, from its first such `#` line to the next line beginning `#` or the end"
abbrev pub up_to : List ℕ → ℕ → Option ℕ → List ℕ
up_to t i (Some j) = take (j - i) (drop i t)
up_to t i None = drop i t

abbrev pub service_lines : List ℕ → Option ℕ → List ℕ
service_lines t (Some i) = up_to t i (seek_after is_hash i (lines (drop i t)))
service_lines t None = []

abbrev pub head_at : List ℕ → ℕ → Option ℕ
head_at t service = seek (is_head service) 0 (lines t)

unfoldable pub lines_now : List ℕ → List ℕ → ℕ → List ℕ
lines_now t block service = cond (is_one_block service (lines block)) block (service_lines t (head_at t service))

-- "else 12 and an empty part"
unfoldable pub lines_now_test : List ℕ → List ℕ → ℕ → Test
lines_now_test t block service = cond (is_one_block service (lines block)) (Ok tt) (found (head_at t service) (Err NoService))
