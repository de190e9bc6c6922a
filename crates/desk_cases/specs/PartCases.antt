-- "Name" and "Lines now": parts of the lent texts, and the number of a refusal.
use Prim.{tt}
use Rattle.std.specs.Prelude.{ℕ, refl, List, [], ◌∷◌, ◌++◌}
use Prim.Native.String.{String}
use Rattle.iff.specs.Bytes.{bytes}
use Rattle.iff_desk.specs.Answers.{part_number}
use Rattle.iff_desk.specs.Parts.{name, name_test, lines_now, lines_now_test}
use Rattle.small_delivery.specs.Text.{written}
use Rattle.small_delivery.specs.Claims.{Claim, claim, Hold}
use Rattle.small_delivery.specs.Opened.{opened}
use Rattle.small_delivery.specs.Delivery.{small, files, short, header, block7, block8, block9, other8}
use Rattle.small_delivery.specs.Stored.{AAA, CCC}

-- a station's name, and the number
abbrev named : List ℕ → ℕ → List ℕ × ℕ
named stations short = (name stations short, part_number (name_test stations short))

-- the STATIONS text of the small delivery
abbrev stations : List ℕ
stations = (files small).stations

-- rows of the same short name
abbrev first : String
first = "1,AAA    ,05,  ,NL  ,0000,  ,000000,000000,First                         "

abbrev second : String
second = "1,AAA    ,05,  ,NL  ,0000,  ,000000,000000,Second                        "

-- "Name"
abbrev pub names : List Claim
names =
    -- "the part of the lent STATIONS file that holds columns 44-73 of the first row of 73 bytes, after the first line, with that short name"
    claim "the first row" (named stations AAA) (bytes "Pier                          ", 0) ∷
    claim "the last row" (named stations CCC) (bytes "Terminal                      ", 0) ∷
    -- a remainder without CR LF counts as a line
    claim "a final remainder of 73 bytes" (named (short 2 stations) CCC) (bytes "Terminal                      ", 0) ∷
    -- CR alone makes the remainder 74 bytes
    claim "a final remainder of 74 bytes" (named (short 1 stations) CCC) ([], 17) ∷
    claim "a final remainder of 72 bytes" (named (short 3 stations) CCC) ([], 17) ∷
    -- "else 17 and an empty part"
    claim "no such station" (named stations 0x44444420202020) ([], 17) ∷
    claim "an empty file" (named [] AAA) ([], 17) ∷
    -- after the first line
    claim "a first line that looks like a row" (named (written (first ∷ second ∷ [])) AAA) (bytes "Second                        ", 0) ∷
    -- the first of two
    claim "two rows" (named (written (header ∷ first ∷ second ∷ [])) AAA) (bytes "First                         ", 0) ∷
    -- a row of 73 bytes
    claim "a row of 74 bytes before it"
    (named (written (header ∷ "1,AAA    ,05,  ,NL  ,0000,  ,000000,000000,First                          " ∷ second ∷ [])) AAA)
    (bytes "Second                        ", 0) ∷
    -- commas and bytes are not checked
    claim "a row with other bytes in its gaps"
    (named (written (header ∷ "1;AAA    ;05;  ;NL  ;0000;  ;000000;000000;First                         " ∷ [])) AAA)
    (bytes "First                         ", 0) ∷
    []

pub names_hold : Hold names
unfolding opened
names_hold = (refl, (refl, (refl, (refl, (refl, (refl, (refl, (refl, (refl, (refl, (refl, tt)))))))))))

-- a service's lines by a text and a block, and the number
abbrev now : List ℕ → List ℕ → ℕ → List ℕ × ℕ
now t block service = (lines_now t block service, part_number (lines_now_test t block service))

-- the TIMETBLS text of the small delivery
abbrev timetable : List ℕ
timetable = (files small).timetbls

-- "Lines now"
abbrev pub lines_nows : List Claim
lines_nows =
    -- "a part of the block if it passes 11's test for that service"
    claim "from the block" (now timetable (written other8) 8) (written other8, 0) ∷
    -- "else of the text, from its first such `#` line to the next line beginning `#`"
    claim "from the text, up to the next `#`" (now timetable (written other8) 7) (written block7, 0) ∷
    claim "an empty block" (now timetable [] 8) (written block8, 0) ∷
    -- the block does not end in CR LF
    claim "a block without its CR LF" (now timetable (short 2 (written other8)) 8) (written block8, 0) ∷
    -- no other line begins `#` or `@`
    claim "a block with a second `#`" (now timetable (written (other8 ++ other8)) 8) (written block8, 0) ∷
    -- "or the end"
    claim "from the text, up to the end" (now timetable (written other8) 9) (written block9, 0) ∷
    -- "else 12 and an empty part"
    claim "no such service" (now timetable (written other8) 6) ([], 12) ∷
    -- a service beyond eight digits
    claim "a service of nine digits" (now timetable (written other8) 100000008) ([], 12) ∷
    -- a text is searched, whatever it is
    claim "a first line that is a service's, unended" (now (bytes "#00000008") [] 8) (bytes "#00000008", 0) ∷
    -- `@` does not end the part, any line beginning `#` does
    claim "a text with `@` and a broken `#`" (now (written ("#00000008" ∷ "@" ∷ "x" ∷ "#" ∷ "y" ∷ [])) [] 8)
    (written ("#00000008" ∷ "@" ∷ "x" ∷ []), 0) ∷
    -- eight digits alone
    claim "a longer `#` line before it" (now (written ("#000000080" ∷ "x" ∷ "#00000008" ∷ "y" ∷ [])) [] 8) (written ("#00000008" ∷ "y" ∷ []), 0) ∷
    -- the first such
    claim "two such lines" (now (written ("#00000008" ∷ "x" ∷ "#00000008" ∷ "y" ∷ [])) [] 8) (written ("#00000008" ∷ "x" ∷ []), 0) ∷
    []

pub lines_nows_hold : Hold lines_nows
unfolding opened
lines_nows_hold = (refl, (refl, (refl, (refl, (refl, (refl, (refl, (refl, (refl, (refl, (refl, (refl, tt))))))))))))
