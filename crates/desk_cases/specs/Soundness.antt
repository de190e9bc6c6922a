-- "Soundness": the loaded tables, and tables with one word changed.
use Prim.{tt}
use Rattle.std.specs.Prelude.{refl, List, [], ◌∷◌, ◌++◌, true, false, take}
use Rattle.iff.specs.Files.{per_file}
use Rattle.iff.specs.declared.RowFile.TheVariants.{Company, Trnsmode, Stations}
use Rattle.iff.specs.declared.GroupFile.TheVariants.{Timezone, Footnote, Changes, Xfootnote, Xchanges}
use Rattle.iff.specs.declared.File.TheVariants.{Delivery, Rows, Groups, Timetbls}
use Rattle.small_delivery.specs.Claims.{Claim, claim, Hold}
use Rattle.small_delivery.specs.Opened.{opened}
use Rattle.small_delivery.specs.Delivery.{at}
use Rattle.iff_desk.specs.Sound.{sound}
use Rattle.small_delivery.specs.Stored.{stored, reword, keeping, tampered}

-- rows and unused places
abbrev pub words : List Claim
words =
    -- the loaded tables
    claim "the small delivery's tables" (sound stored) true ∷
    -- "unused places are zero"
    claim "the last word of COMPANY" (sound tampered) false ∷
    claim "a word of a row that its record does not use" (sound (reword (Rows Company) 1 5 1 stored)) false ∷
    claim "a word behind the last row of XCHANGES" (sound (reword (Groups Xchanges) 7 1 1 stored)) false ∷
    -- a `#` row counts the block's lines and stops
    claim "lines of the first block" (sound (reword Timetbls 1 2 11 stored)) false ∷
    claim "stops of the first block" (sound (reword Timetbls 1 3 4 stored)) false ∷
    -- a row has its line's number
    claim "the second line of the first block" (sound (reword Timetbls 2 6 3 stored)) false ∷
    -- a first line's row tells whether the keys rise
    claim "TRNSMODE's do not" (sound (reword (Rows Trnsmode) 0 5 1 stored)) false ∷
    claim "COMPANY's do" (sound (reword (Rows Company) 0 5 0 stored)) false ∷
    -- "rows meet every rule here on kept fields": references
    claim "a station's zone" (sound (reword (Rows Stations) 1 5 7 stored)) false ∷
    claim "an exception's footnote" (sound (reword (Groups Xchanges) 2 6 3 stored)) false ∷
    -- a vector's mark beyond the span
    claim "the eleventh of ten days" (sound (reword (Groups Footnote) 2 1 2047 stored)) false ∷
    claim "a mark in the second word" (sound (reword (Groups Footnote) 2 2 1 stored)) false ∷
    claim "another mark within the span" (sound (reword (Groups Footnote) 2 1 1022 stored)) true ∷
    -- a code's bytes are allowed, and not all blank
    claim "an attribute with byte 31" (sound (reword Timetbls 5 1 0x4649451F stored)) false ∷
    claim "a blank attribute" (sound (reword Timetbls 5 1 0x20202020 stored)) false ∷
    claim "an attribute of five bytes" (sound (reword Timetbls 5 1 0x4649455454 stored)) false ∷
    []

pub words_hold : Hold words
unfolding opened
words_hold =
    (refl, (refl, (refl, (refl, (refl, (refl, (refl, (refl, (refl, (refl, (refl, (refl, (refl, (refl, (refl, (refl, (refl, tt)))))))))))))))))

-- rules on kept fields
abbrev pub rules : List Claim
rules =
    -- "Times" on kept fields
    claim "9999 in `>`" (sound (reword Timetbls 6 2 9999 stored)) false ∷
    claim "another time in `>`" (sound (reword Timetbls 6 2 9959 stored)) true ∷
    claim "arrival and departure the same" (sound (reword Timetbls 9 2 2510 stored)) false ∷
    -- "Legs"
    claim "`%` lacks leg 2" (sound (reword Timetbls 2 4 2 stored)) false ∷
    -- "Order"
    claim "`;` for `<`" (sound (reword Timetbls 10 0 59 stored)) false ∷
    -- "Values"
    claim "possibility 3" (sound (reword (Groups Changes) 2 3 3 stored)) false ∷
    claim "possibility 2" (sound (reword (Groups Changes) 2 3 2 stored)) true ∷
    claim "a period's last day no day" (sound (reword (Groups Timezone) 2 3 32011615 stored)) false ∷
    -- "Unique"
    claim "a pair again" (sound (reword (Groups Changes) 3 2 8 stored)) false ∷
    claim "another pair" (sound (reword (Groups Changes) 3 2 7 stored)) true ∷
    claim "periods that share a day" (sound (reword (Groups Timezone) 2 3 6011615 stored)) false ∷
    -- first lines are the same on what is kept
    claim "CHANGES' version" (sound (reword (Groups Changes) 0 4 2 stored)) false ∷
    -- DELIVERY has one row
    claim "a second row in DELIVERY" (sound (at Delivery (λ t. take 6 t ++ (64 ∷ 100 ∷ 1011615 ∷ 10011615 ∷ 1 ∷ 1 ∷ 0 ∷ [])) stored)) false ∷
    []

pub rules_hold : Hold rules
unfolding opened
rules_hold = (refl, (refl, (refl, (refl, (refl, (refl, (refl, (refl, (refl, (refl, (refl, (refl, (refl, tt)))))))))))))

-- needed files
abbrev pub first_lines : List Claim
first_lines =
    -- XFOOTNOTE is needed where XCHANGES is
    claim "XFOOTNOTE emptied" (sound (keeping 0 (Groups Xfootnote) stored)) false ∷
    claim "XFOOTNOTE and XCHANGES emptied" (sound (keeping 0 (Groups Xchanges) (keeping 0 (Groups Xfootnote) stored))) true ∷
    claim "CHANGES emptied" (sound (keeping 0 (Groups Changes) stored)) true ∷
    -- "the needed first lines are there"
    claim "TIMETBLS emptied, and CHANGES" (sound (keeping 0 (Groups Changes) (keeping 0 Timetbls stored))) false ∷
    claim "TIMETBLS with its first line alone, and no CHANGES" (sound (keeping 0 (Groups Changes) (keeping 1 Timetbls stored))) true ∷
    claim "without DELIVERY" (sound (keeping 0 Delivery stored)) false ∷
    claim "tables of no words" (sound (per_file (λ f. []))) false ∷
    -- a row that is not there ends the rows, and nothing may follow
    claim "a first word made zero" (sound (reword (Rows Stations) 2 0 0 stored)) false ∷
    []

pub first_lines_hold : Hold first_lines
unfolding opened
first_lines_hold = (refl, (refl, (refl, (refl, (refl, (refl, (refl, (refl, tt))))))))
