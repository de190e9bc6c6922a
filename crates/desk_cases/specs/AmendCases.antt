-- "Amendment": three accepted one after another, and every refusal.
use Prim.{tt}
use Rattle.std.specs.Prelude.{ℕ, refl, List, [], ◌∷◌, ◌++◌, true, replicate}
use Prim.Native.String.{String}
use Rattle.iff.specs.Files.{PerFile}
use Rattle.iff.specs.Columns.{form424}
use Rattle.iff.specs.declared.GroupFile.TheVariants.{Changes}
use Rattle.iff.specs.declared.File.TheVariants.{Delivery, Groups, Timetbls}
use Rattle.small_delivery.specs.Text.{written}
use Rattle.small_delivery.specs.Claims.{Claim, claim, Hold}
use Rattle.small_delivery.specs.Opened.{opened}
use Rattle.small_delivery.specs.Delivery.{small, put, insert, omit, instead, at, edit, files, short, header, block7, block8, block9, other8}
use Rattle.iff_rules.specs.Load.{load_table}
use Rattle.iff_desk.specs.Sound.{sound, rows_of_tables}
use Rattle.iff_rules.specs.Rows.{context_of}
use Rattle.iff_desk.specs.Amend.{edited_length, amend_answer, amend_timetbls, edited}
use Rattle.small_delivery.specs.Shown.{Shown, accepted, refused, shown, TIMETBLS}
use Rattle.small_delivery.specs.Stored.{AAA, BBB, CCC, timetbls_first, rows7, rows8, rows9, timetbls_words, stored, rooms, keeping}

-- the blocks of the second and the third of three amendments (the first is Delivery's other8)
abbrev other7 : List String
other7 =
    "#00000007"
    ∷ "%100,00099,KORT   ,001,002,Short trip                    "
    ∷ "-00002,001,002"
    ∷ "&IC  ,001,002"
    ∷ ">AAA    ,0500"
    ∷ "<BBB    ,0700"
    ∷ []

abbrev other9 : List String
other9 =
    "#00000009"
    ∷ "%200,00014,       ,000,999,                              "
    ∷ "-00001,000,999"
    ∷ "&IC  ,000,999"
    ∷ ">BBB    ,0100"
    ∷ ".AAA    ,0200"
    ∷ ".AAA    ,0201"
    ∷ ".AAA    ,0202"
    ∷ ".AAA    ,0203"
    ∷ ".AAA    ,0204"
    ∷ ".AAA    ,0205"
    ∷ ".AAA    ,0206"
    ∷ ".AAA    ,0207"
    ∷ ".AAA    ,0208"
    ∷ ".AAA    ,0209"
    ∷ ".AAA    ,0210"
    ∷ ".AAA    ,0211"
    ∷ "<CCC    ,0400"
    ∷ []

-- TIMETBLS after each, as lines
abbrev timetable1 : List String
timetable1 = header ∷ (block7 ++ (other8 ++ block9))

abbrev timetable2 : List String
timetable2 = header ∷ (other7 ++ (other8 ++ block9))

abbrev timetable3 : List String
timetable3 = header ∷ (other7 ++ (other8 ++ other9))

-- and as words
abbrev other_rows8 : List ℕ
other_rows8 =
    35 ∷ 8 ∷ 9 ∷ 3 ∷ 0 ∷ 0 ∷ 1
    ∷ 37 ∷ 200 ∷ 13 ∷ 1 ∷ 3 ∷ 0 ∷ 2
    ∷ 45 ∷ 1 ∷ 1 ∷ 3 ∷ 0 ∷ 0 ∷ 3
    ∷ 38 ∷ 0x424F4154 ∷ 1 ∷ 2 ∷ 0 ∷ 0 ∷ 4
    ∷ 38 ∷ 0x49432020 ∷ 2 ∷ 3 ∷ 0 ∷ 0 ∷ 5
    ∷ 62 ∷ CCC ∷ 40 ∷ 0 ∷ 0 ∷ 0 ∷ 6
    ∷ 43 ∷ BBB ∷ 210 ∷ 220 ∷ 0 ∷ 0 ∷ 7
    ∷ 63 ∷ 2 ∷ 0 ∷ 0 ∷ 0 ∷ 0 ∷ 8
    ∷ 60 ∷ AAA ∷ 311 ∷ 0 ∷ 0 ∷ 0 ∷ 9
    ∷ []

abbrev other_rows7 : List ℕ
other_rows7 =
    35 ∷ 7 ∷ 6 ∷ 2 ∷ 0 ∷ 0 ∷ 1
    ∷ 37 ∷ 100 ∷ 99 ∷ 1 ∷ 2 ∷ 0 ∷ 2
    ∷ 45 ∷ 2 ∷ 1 ∷ 2 ∷ 0 ∷ 0 ∷ 3
    ∷ 38 ∷ 0x49432020 ∷ 1 ∷ 2 ∷ 0 ∷ 0 ∷ 4
    ∷ 62 ∷ AAA ∷ 500 ∷ 0 ∷ 0 ∷ 0 ∷ 5
    ∷ 60 ∷ BBB ∷ 700 ∷ 0 ∷ 0 ∷ 0 ∷ 6
    ∷ []

abbrev other_rows9 : List ℕ
other_rows9 =
    35 ∷ 9 ∷ 18 ∷ 14 ∷ 0 ∷ 0 ∷ 1
    ∷ 37 ∷ 200 ∷ 14 ∷ 1 ∷ 14 ∷ 0 ∷ 2
    ∷ 45 ∷ 1 ∷ 1 ∷ 14 ∷ 0 ∷ 0 ∷ 3
    ∷ 38 ∷ 0x49432020 ∷ 1 ∷ 14 ∷ 0 ∷ 0 ∷ 4
    ∷ 62 ∷ BBB ∷ 100 ∷ 0 ∷ 0 ∷ 0 ∷ 5
    ∷ 46 ∷ AAA ∷ 200 ∷ 0 ∷ 0 ∷ 0 ∷ 6
    ∷ 46 ∷ AAA ∷ 201 ∷ 0 ∷ 0 ∷ 0 ∷ 7
    ∷ 46 ∷ AAA ∷ 202 ∷ 0 ∷ 0 ∷ 0 ∷ 8
    ∷ 46 ∷ AAA ∷ 203 ∷ 0 ∷ 0 ∷ 0 ∷ 9
    ∷ 46 ∷ AAA ∷ 204 ∷ 0 ∷ 0 ∷ 0 ∷ 10
    ∷ 46 ∷ AAA ∷ 205 ∷ 0 ∷ 0 ∷ 0 ∷ 11
    ∷ 46 ∷ AAA ∷ 206 ∷ 0 ∷ 0 ∷ 0 ∷ 12
    ∷ 46 ∷ AAA ∷ 207 ∷ 0 ∷ 0 ∷ 0 ∷ 13
    ∷ 46 ∷ AAA ∷ 208 ∷ 0 ∷ 0 ∷ 0 ∷ 14
    ∷ 46 ∷ AAA ∷ 209 ∷ 0 ∷ 0 ∷ 0 ∷ 15
    ∷ 46 ∷ AAA ∷ 210 ∷ 0 ∷ 0 ∷ 0 ∷ 16
    ∷ 46 ∷ AAA ∷ 211 ∷ 0 ∷ 0 ∷ 0 ∷ 17
    ∷ 60 ∷ CCC ∷ 400 ∷ 0 ∷ 0 ∷ 0 ∷ 18
    ∷ []

abbrev words1 : List ℕ
words1 = timetbls_first ++ (rows7 ++ (other_rows8 ++ (rows9 ++ replicate 24 0)))

abbrev words2 : List ℕ
words2 = timetbls_first ++ (other_rows7 ++ (other_rows8 ++ (rows9 ++ replicate 52 0)))

abbrev words3 : List ℕ
words3 = timetbls_first ++ (other_rows7 ++ (other_rows8 ++ (other_rows9 ++ replicate 3 0)))

-- the tables with another TIMETBLS
abbrev holding : List ℕ → PerFile (List ℕ)
holding words = at Timetbls (λ t. words) stored

-- an amendment's answer, and TIMETBLS after it
abbrev amended : PerFile (List ℕ) → ℕ → List ℕ → Shown × List ℕ
amended T s b = (shown (amend_answer T s b), amend_timetbls T s b)

-- a load of other lines into the same tables: TIMETBLS after it
abbrev loaded : List String → List ℕ
loaded ls = load_table Timetbls (files (edit Timetbls (instead ls))) rooms

-- three amendments, one after another
abbrev pub amendments : List Claim
amendments =
    -- "The block replaces the service's lines": nine lines for eight in the second block
    claim "the first amendment" (amended stored 8 (written other8)) (accepted 10 3, words1) ∷
    -- "as a load of the edited text"
    claim "a load of the edited text" (loaded timetable1) words1 ∷
    claim "the edited text" (edited (form424 10) (files small).timetbls 8 (written other8)) (written timetable1) ∷
    -- six lines for ten in the first block
    claim "the second amendment" (amended (holding words1) 7 (written other7)) (accepted 10 3, words2) ∷
    claim "a load of the edited text" (loaded timetable2) words2 ∷
    claim "the edited text" (edited (form424 10) (written timetable1) 7 (written other7)) (written timetable2) ∷
    -- "freed room is used": 18 lines for eleven in the last block fill all 34
    claim "the third amendment" (amended (holding words2) 9 (written other9)) (accepted 10 3, words3) ∷
    claim "a load of the edited text" (loaded timetable3) words3 ∷
    claim "the edited text" (edited (form424 10) (written timetable2) 9 (written other9)) (written timetable3) ∷
    -- and the tables are sound again
    claim "sound after the third" (sound (holding words3)) true ∷
    -- the block that is there already
    claim "an amendment that changes nothing" (amended (holding words3) 8 (written other8)) (accepted 10 3, words3) ∷
    -- "Test 1 counts the edited text by its lines' lengths."
    claim "the edited text's bytes"
    (edited_length (context_of (rows_of_tables stored)) 1 (rows_of_tables stored).timetbls (written other8))
    713 ∷
    []

pub amendments_hold : Hold amendments
unfolding opened
amendments_hold = (refl, (refl, (refl, (refl, (refl, (refl, (refl, (refl, (refl, (refl, (refl, (refl, tt))))))))))))

-- a refused amendment of the loaded tables: its answer, and TIMETBLS as it was
abbrev left : Shown → Shown × List ℕ
left answer = (answer, timetbls_words)

-- 11 and 12
abbrev pub not_one_block : List Claim
not_one_block =
    -- "11 unless the block ends in CR LF"
    claim "no CR LF" (amended stored 8 (short 2 (written other8))) (left (refused 11 0 0 0)) ∷
    -- "its first line is `#` and that service's eight digits alone"
    claim "another service's block" (amended stored 7 (written other8)) (left (refused 11 0 0 0)) ∷
    claim "a longer first line" (amended stored 8 (written (put 1 "#00000008 " other8))) (left (refused 11 0 0 0)) ∷
    claim "an empty block" (amended stored 8 []) (left (refused 11 0 0 0)) ∷
    -- "no other line begins `#` or `@`"
    claim "a second `#`" (amended stored 8 (written (other8 ++ other8))) (left (refused 11 0 0 0)) ∷
    claim "an `@`" (amended stored 8 (written (put 2 header other8))) (left (refused 11 0 0 0)) ∷
    -- a service beyond eight digits
    claim "a service of nine digits" (amended stored 100000008 (written other8)) (left (refused 11 0 0 0)) ∷
    -- "then 12"
    claim "no such service" (amended stored 6 (written (put 1 "#00000006" other8))) (left (refused 12 0 0 0)) ∷
    []

pub not_one_block_hold : Hold not_one_block
unfolding opened
not_one_block_hold = (refl, (refl, (refl, (refl, (refl, (refl, (refl, (refl, tt))))))))

-- 2, and the block's lines
abbrev pub block_lines : List Claim
block_lines =
    -- "2 over TIMETBLS": 34 lines are room for twelve in the place of eight
    claim "thirteen lines" (amended stored 8 (written (other8 ++ replicate 4 ";BBB    "))) (left (refused 2 TIMETBLS 0 0)) ∷
    -- twelve lines have room, and the tenth is not allowed where it stands
    claim "twelve lines" (amended stored 8 (written (other8 ++ replicate 3 ";BBB    "))) (left (refused 7 TIMETBLS 2 10)) ∷
    -- "then the block's lines"
    claim "4" (amended stored 8 (written (put 9 "<AAA    ,031" other8))) (left (refused 4 TIMETBLS 2 9)) ∷
    claim "4, an unknown first byte" (amended stored 8 (written (put 2 "!" other8))) (left (refused 4 TIMETBLS 2 2)) ∷
    claim "7, a record not allowed here" (amended stored 8 (written (omit 2 1 other8))) (left (refused 7 TIMETBLS 2 2)) ∷
    claim "7, unfinished" (amended stored 8 (written (omit 8 2 other8))) (left (refused 7 TIMETBLS 2 7)) ∷
    claim "5" (amended stored 8 (written (put 7 "+BBB    ,0220,0220" other8))) (left (refused 5 TIMETBLS 2 7)) ∷
    claim "9" (amended stored 8 (written (put 6 ">DDD    ,0040" other8))) (left (refused 9 TIMETBLS 2 6)) ∷
    claim "10" (amended stored 8 (written (put 5 "&IC  ,001,999" other8))) (left (refused 10 TIMETBLS 2 1)) ∷
    -- the ordinal is the block's
    claim "10 in the third block" (amended stored 9 (written (put 4 "-00001,001,002" block9))) (left (refused 10 TIMETBLS 3 1)) ∷
    -- before room was freed: 18 lines for eleven make 37
    claim "the third of the amendments first" (amended stored 9 (written other9)) (left (refused 2 TIMETBLS 0 0)) ∷
    []

pub block_lines_hold : Hold block_lines
unfolding opened
block_lines_hold = (refl, (refl, (refl, (refl, (refl, (refl, (refl, (refl, (refl, (refl, (refl, tt)))))))))))

-- THE ONLY SERVICE of a delivery that has no CHANGES, in a table with room for ten lines and a remainder
abbrev alone : List ℕ → PerFile (List ℕ)
alone words = at Timetbls (λ t. words) (keeping 0 (Groups Changes) stored)

abbrev alone_words : List ℕ
alone_words = timetbls_first ++ (rows8 ++ replicate 8 0)

-- what it becomes: nine lines for eight, and eight again
abbrev alone_other : List ℕ
alone_other = timetbls_first ++ (other_rows8 ++ replicate 1 0)

abbrev pub only_service : List Claim
only_service =
    claim "the only service" (amended (alone alone_words) 8 (written other8)) (accepted 10 1, alone_other) ∷
    claim "and as it was" (amended (alone alone_other) 8 (written block8)) (accepted 10 1, alone_words) ∷
    claim "to the very same lines" (amended (alone alone_words) 8 (written block8)) (accepted 10 1, alone_words) ∷
    -- ten lines behind the first, where nine have room
    claim "one line too many" (amended (alone alone_words) 8 (written (insert 8 ";BBB    " (insert 8 ";BBB    " block8))))
    (refused 2 TIMETBLS 0 0, alone_words) ∷
    claim "another service" (amended (alone alone_words) 7 (written block7)) (refused 12 0 0 0, alone_words) ∷
    []

pub only_service_hold : Hold only_service
unfolding opened
only_service_hold = (refl, (refl, (refl, (refl, (refl, tt)))))

-- 16
abbrev pub unsound : List Claim
unsound =
    -- "After 16"
    claim "tables without DELIVERY" (amended (keeping 0 Delivery stored) 8 []) (left (refused 16 0 0 0)) ∷
    []

pub unsound_hold : Hold unsound
unfolding opened
unsound_hold = (refl, tt)
