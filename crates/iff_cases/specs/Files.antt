-- Needed files, refusal 3, and room, refusal 2.
use Prim.{tt}
use Rattle.std.specs.Prelude.{ℕ, ◌-◌, refl, List, [], ◌∷◌, map, true, false}
use Rattle.iff.specs.Files.{PerFile, in_order, file_number, needed}
use Rattle.iff.specs.Tables.{row_width, key_tag, key_word}
use Rattle.iff.specs.declared.RowFile.TheVariants.{Company, Country, Trnsmode, Stations}
use Rattle.iff.specs.declared.GroupFile.TheVariants.{Timezone, Footnote, Changes, Xfootnote, Xchanges}
use Rattle.iff.specs.declared.File.{File}
use Rattle.iff.specs.declared.File.TheVariants.{Delivery, Rows, Groups, Timetbls}
use Rattle.iff_rules.specs.Load.{load_answer, present_in}
use Rattle.small_delivery.specs.Claims.{Claim, claim, Hold, each}
use Rattle.small_delivery.specs.Opened.{opened}
use Rattle.small_delivery.specs.Delivery.{small, instead, at, edit, files, short, header}
use Rattle.small_delivery.specs.Shown.{Shown, accepted, refused, DELIVERY, COMPANY, TIMETBLS, XFOOTNOTE, XCHANGES, file, load, shown, room_for, roomy}

-- what is said of each file by its kind, in their order
abbrev pub kinds : List Claim
kinds =
    claim "their numbers" (map file_number in_order) (1 ∷ 2 ∷ 3 ∷ 4 ∷ 5 ∷ 6 ∷ 7 ∷ 8 ∷ 9 ∷ 10 ∷ 11 ∷ []) ∷
    -- the words of a row; which rows name a key, and in which word (docs/TABLES.md)
    claim "words of a row" (map row_width in_order) (6 ∷ 6 ∷ 6 ∷ 6 ∷ 6 ∷ 6 ∷ 14 ∷ 7 ∷ 6 ∷ 14 ∷ 7 ∷ []) ∷
    claim "tags of keys" (map key_tag in_order) (1 ∷ 1 ∷ 1 ∷ 1 ∷ 35 ∷ 1 ∷ 35 ∷ 35 ∷ 35 ∷ 35 ∷ 35 ∷ []) ∷
    claim "words of keys" (map key_word in_order) (1 ∷ 1 ∷ 1 ∷ 1 ∷ 1 ∷ 2 ∷ 1 ∷ 1 ∷ 1 ∷ 1 ∷ 1 ∷ []) ∷
    -- "The last three may be absent"
    claim "needed where none is there" (map (needed (λ f. false)) in_order)
    (true ∷ true ∷ true ∷ true ∷ true ∷ true ∷ true ∷ true ∷ false ∷ false ∷ false ∷ []) ∷
    -- "XFOOTNOTE only if XCHANGES is too"
    claim "needed where all are there" (map (needed (present_in (files small))) in_order)
    (true ∷ true ∷ true ∷ true ∷ true ∷ true ∷ true ∷ true ∷ false ∷ true ∷ false ∷ []) ∷
    claim "needed where all but XCHANGES are" (map (needed (present_in (files (edit (Groups Xchanges) (instead []))))) in_order)
    (true ∷ true ∷ true ∷ true ∷ true ∷ true ∷ true ∷ true ∷ false ∷ false ∷ false ∷ []) ∷
    []

pub kinds_hold : Hold kinds
unfolding opened
kinds_hold = (refl, (refl, (refl, (refl, (refl, (refl, (refl, tt)))))))

-- "The last three may be absent (length 0)", the others not
abbrev always : List File
always =
    Delivery ∷ Rows Company ∷ Rows Country ∷ Rows Trnsmode ∷ Groups Timezone ∷ Rows Stations ∷ Groups Footnote ∷ Timetbls ∷ []

abbrev without : File → Claim
without f = claim (file f) (load (edit f (instead []))) (refused 3 (file_number f) 0 0)

abbrev pub absent : List Claim
absent = each without always

pub absent_hold : Hold absent
unfolding opened
absent_hold = (refl, (refl, (refl, (refl, (refl, (refl, (refl, (refl, tt))))))))

abbrev pub present : List Claim
present =
    -- "XFOOTNOTE only if XCHANGES is too"
    claim "no XFOOTNOTE, and XCHANGES" (load (edit (Groups Xfootnote) (instead []))) (refused 3 XFOOTNOTE 0 0) ∷
    claim "no XFOOTNOTE, and XCHANGES' first line"
    (load (at (Groups Xchanges) (instead (header ∷ [])) (edit (Groups Xfootnote) (instead []))))
    (refused 3 XFOOTNOTE 0 0) ∷
    claim "no XCHANGES" (load (edit (Groups Xchanges) (instead []))) (accepted 10 3) ∷
    claim "no XFOOTNOTE and no XCHANGES" (load (at (Groups Xchanges) (instead []) (edit (Groups Xfootnote) (instead [])))) (accepted 10 3) ∷
    claim "no CHANGES" (load (edit (Groups Changes) (instead []))) (accepted 10 3) ∷
    -- "A file with only its first line is present."
    claim "XFOOTNOTE's first line, and XCHANGES'"
    (load (at (Groups Xchanges) (instead (header ∷ [])) (edit (Groups Xfootnote) (instead (header ∷ [])))))
    (accepted 10 3) ∷
    claim "XFOOTNOTE's first line, and a footnote named" (load (edit (Groups Xfootnote) (instead (header ∷ [])))) (refused 9 XCHANGES 0 3) ∷
    []

pub present_hold : Hold present
unfolding opened
present_hold = (refl, (refl, (refl, (refl, (refl, (refl, (refl, tt)))))))

-- a load into tables of which one has so many words
abbrev into : File → ℕ → PerFile (List ℕ) → Shown
into f n F = shown (load_answer F (at f (λ m. n) roomy))

-- "Room is counted in lines; a lent table's length gives it."
abbrev pub rooms : List Claim
rooms =
    claim "room for COMPANY's 3 lines" (into (Rows Company) (room_for 3 (Rows Company)) (files small)) (accepted 10 3) ∷
    claim "one word less" (into (Rows Company) (room_for 3 (Rows Company) - 1) (files small)) (refused 2 COMPANY 0 0) ∷
    claim "room for TIMETBLS' 30 lines" (into Timetbls (room_for 30 Timetbls) (files small)) (accepted 10 3) ∷
    claim "one word less in TIMETBLS" (into Timetbls (room_for 30 Timetbls - 1) (files small)) (refused 2 TIMETBLS 0 0) ∷
    claim "room for XFOOTNOTE's 5 lines, and for 6 of XCHANGES' 7"
    (shown
    (load_answer (files small)
    (at (Groups Xchanges) (λ n. room_for 7 (Groups Xchanges) - 1) (at (Groups Xfootnote) (λ n. room_for 5 (Groups Xfootnote)) roomy))))
    (refused 2 XCHANGES 0 0) ∷
    claim "no room for DELIVERY's line" (into Delivery (room_for 1 Delivery - 1) (files small)) (refused 2 DELIVERY 0 0) ∷
    -- an absent file needs no room
    claim "no CHANGES, and no room for it" (into (Groups Changes) 0 (files (edit (Groups Changes) (instead [])))) (accepted 10 3) ∷
    -- a remainder is a line
    claim "no CR LF at the end of COMPANY, and room for 2 lines"
    (into (Rows Company) (room_for 3 (Rows Company) - 1) (at (Rows Company) (short 2) (files small)))
    (refused 2 COMPANY 0 0) ∷
    []

pub rooms_hold : Hold rooms
unfolding opened
rooms_hold = (refl, (refl, (refl, (refl, (refl, (refl, (refl, (refl, tt))))))))
