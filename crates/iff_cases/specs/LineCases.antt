-- "Lines end in CR LF; a remainder without it counts as a line."
use Prim.{tt}
use Prim.Native.String.{String}
use Rattle.std.specs.Prelude.{refl, List, [], ◌∷◌, Bool, true, false, None, Some}
use Rattle.iff.specs.Lines.{Line, lines, eol_at}
use Rattle.iff.specs.Bytes.{bytes}
use Rattle.small_delivery.specs.Claims.{Claim, claim, Hold}
use Rattle.small_delivery.specs.Opened.{opened}

-- a line's bytes, and whether CR LF ends it
abbrev line : String → Bool → Line
line s ended = record { body = bytes s; ended = ended }

-- lines
abbrev pub line_cases : List Claim
line_cases =
    -- "Lines end in CR LF"
    claim "two lines" (lines (bytes "ab\r\nc\r\n")) (line "ab" true ∷ line "c" true ∷ []) ∷
    -- "a remainder without it counts as a line"
    claim "a remainder" (lines (bytes "ab\r\nc")) (line "ab" true ∷ line "c" false ∷ []) ∷
    claim "no bytes" (lines (bytes "")) ([]) ∷
    claim "CR LF alone" (lines (bytes "\r\n")) (line "" true ∷ []) ∷
    claim "CR LF twice" (lines (bytes "\r\n\r\n")) (line "" true ∷ line "" true ∷ []) ∷
    -- CR or LF alone ends no line
    claim "LF alone" (lines (bytes "a\nb\r\n")) (line "a\nb" true ∷ []) ∷
    claim "CR alone" (lines (bytes "a\rb\r\n")) (line "a\rb" true ∷ []) ∷
    claim "CR before CR LF" (lines (bytes "a\r\r\n")) (line "a\r" true ∷ []) ∷
    claim "LF before CR LF" (lines (bytes "\n\r\n")) (line "\n" true ∷ []) ∷
    claim "CR at the end" (lines (bytes "a\r\nb\r")) (line "a" true ∷ line "b\r" false ∷ []) ∷
    -- a reader's view: where the line that starts at a place ends
    claim "the first line's end" (eol_at (bytes "ab\r\nc") 0) (Some 2) ∷
    claim "the second line's end" (eol_at (bytes "ab\r\nc") 4) None ∷
    claim "an empty line's end" (eol_at (bytes "a\r\n\r\n") 3) (Some 3) ∷
    []

pub line_cases_hold : Hold line_cases
unfolding opened
line_cases_hold = (refl, (refl, (refl, (refl, (refl, (refl, (refl, (refl, (refl, (refl, (refl, (refl, (refl, tt)))))))))))))
