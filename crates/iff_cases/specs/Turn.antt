-- "Refusals and their order": which of two faults is reported.
use Prim.{tt}
use Rattle.std.specs.Prelude.{refl, List, [], ◌∷◌}
use Rattle.iff.specs.declared.RowFile.TheVariants.{Company, Country, Stations}
use Rattle.iff.specs.declared.GroupFile.TheVariants.{Timezone, Footnote, Changes, Xfootnote, Xchanges}
use Rattle.iff.specs.declared.File.TheVariants.{Delivery, Rows, Groups, Timetbls}
use Rattle.small_delivery.specs.Claims.{Claim, claim, Hold}
use Rattle.small_delivery.specs.Opened.{opened}
use Rattle.small_delivery.specs.Delivery.{small, put, insert, omit, instead, at, edit, files}
use Rattle.small_delivery.specs.Shown.{refused, COMPANY, COUNTRY, TIMEZONE, STATIONS, FOOTNOTE, TIMETBLS, CHANGES, XFOOTNOTE, XCHANGES, load, shown}
use Rattle.small_delivery.specs.Shown.{roomy}
use Rattle.iff_rules.specs.Load.{load_answer}

-- the order of files and lines
abbrev pub in_turn : List Claim
in_turn =
    -- "A load tests 1, then 3, then 2, each over the files in order."
    claim "3 of a later file before 2 of an earlier"
    (shown (load_answer (files (edit (Rows Stations) (instead []))) (at (Rows Company) (λ n. 0) roomy)))
    (refused 3 STATIONS 0 0) ∷
    claim "3 of two files" (load (at (Rows Country) (instead []) (edit (Rows Stations) (instead [])))) (refused 3 COUNTRY 0 0) ∷
    claim "2 of two files" (shown (load_answer (files small) (at (Groups Timezone) (λ n. 0) (at (Groups Xchanges) (λ n. 0) roomy))))
    (refused 2 TIMEZONE 0 0) ∷
    -- "Then lines in order"
    claim "2 of a later file before the lines of an earlier"
    (shown (load_answer (files (edit Delivery (put 1 ""))) (at (Groups Xchanges) (λ n. 0) roomy)))
    (refused 2 XCHANGES 0 0) ∷
    claim "3 before the lines" (load (at Timetbls (instead []) (edit Delivery (put 1 "")))) (refused 3 TIMETBLS 0 0) ∷
    claim "lines of two files" (load (at (Rows Stations) (put 2 "") (edit (Rows Country) (put 2 "NL  ,2,Netherlands                   "))))
    (refused 5 COUNTRY 0 2) ∷
    claim "a 9 before a later line's 4"
    (load (at (Rows Stations) (put 3 "") (edit (Rows Stations) (put 2 "1,AAA    ,05,  ,B   ,0000,  ,000000,000000,Pier                          "))))
    (refused 9 STATIONS 0 2) ∷
    []

pub in_turn_hold : Hold in_turn
unfolding opened
in_turn_hold = (refl, (refl, (refl, (refl, (refl, (refl, (refl, tt)))))))

-- the order of the tests of one line
abbrev pub in_one_line : List Claim
in_one_line =
    -- "for one line: first byte (4, then 7)": 4 of an unknown byte where no record may stand
    claim "an unknown byte after the last vector" (load (edit (Groups Footnote) (insert 6 "x"))) (refused 4 FOOTNOTE 0 6) ∷
    claim "an unknown byte after `<`" (load (edit Timetbls (insert 20 "x"))) (refused 4 TIMETBLS 2 9) ∷
    -- "rest of layout (4)" after 7
    claim "a record not allowed here, and too short" (load (edit Timetbls (put 3 "-"))) (refused 7 TIMETBLS 1 2) ∷
    claim "a period before the first `#`, and too short" (load (edit (Groups Timezone) (put 2 "+"))) (refused 7 TIMEZONE 0 2) ∷
    claim "a second vector, and too short" (load (edit (Groups Xfootnote) (insert 4 "1"))) (refused 7 XFOOTNOTE 0 4) ∷
    -- 7 before 4 for a first line
    claim "a first line of one byte" (load (edit (Rows Country) (put 1 "x"))) (refused 7 COUNTRY 0 1) ∷
    -- "then 6, 5, 8, 9": 4 before 6
    claim "a first line that differs, and is too long"
    (load (edit (Rows Country) (put 1 "@100,01011615,10011615,0001,Case                           ")))
    (refused 4 COUNTRY 0 1) ∷
    -- 6 before 5
    claim "a first line that differs, and has no days"
    (load (edit (Rows Country) (put 1 "@100,99999999,10011615,0001,Cases                         ")))
    (refused 6 COUNTRY 0 1) ∷
    -- 4 before 5
    claim "a wrong turn, and a wrong comma" (load (edit (Rows Company) (put 2 "100.FERRY     ,Ferry Lines                   ,2400")))
    (refused 4 COMPANY 0 2) ∷
    -- 5 before 8
    claim "a company again, with a wrong turn" (load (edit (Rows Company) (insert 4 "100,FERRY     ,Ferry Lines                   ,2400")))
    (refused 5 COMPANY 0 4) ∷
    claim "a period that overlaps, and ends before it begins" (load (edit (Groups Timezone) (put 4 "+02,05011615,04011615")))
    (refused 5 TIMEZONE 0 4) ∷
    -- 5 before 9
    claim "an unknown station, and no time" (load (edit Timetbls (put 7 ">DDD    ,9999"))) (refused 5 TIMETBLS 1 6) ∷
    -- 8 before 9
    claim "a short name again, in no country"
    (load (edit (Rows Stations) (insert 5 "1,AAA    ,05,  ,B   ,0000,  ,000000,000000,Pier                          ")))
    (refused 8 STATIONS 0 5) ∷
    claim "a pair again with a service that is not there: the first of them is 9"
    (load (at (Groups Changes) (put 4 "-00000007,00000006,01") (edit (Groups Changes) (put 3 "-00000007,00000006,01"))))
    (refused 9 CHANGES 0 3) ∷
    []

pub in_one_line_hold : Hold in_one_line
unfolding opened
in_one_line_hold = (refl, (refl, (refl, (refl, (refl, (refl, (refl, (refl, (refl, (refl, (refl, (refl, (refl, (refl, tt))))))))))))))

-- groups and blocks at their end
abbrev pub at_the_end : List Claim
at_the_end =
    -- "7 at the group's last line, after that line's own tests", and before the line that came too soon
    claim "a footnote unfinished, before a broken `#`" (load (edit (Groups Footnote) (put 3 "#"))) (refused 7 FOOTNOTE 0 2) ∷
    claim "a zone unfinished, before a zone that is there already" (load (at (Groups Timezone) (omit 4 1) (edit (Groups Timezone) (put 3 "#0000"))))
    (refused 7 TIMEZONE 0 2) ∷
    claim "a block unfinished, before a broken `#`" (load (edit Timetbls (put 11 "#x"))) (refused 7 TIMETBLS 1 9) ∷
    claim "its own 8 first" (load (at (Groups Footnote) (omit 5 1) (edit (Groups Footnote) (put 4 "#00001")))) (refused 8 FOOTNOTE 0 4) ∷
    claim "its own 4 first" (load (at (Groups Timezone) (omit 6 1) (edit (Groups Timezone) (put 5 "#001")))) (refused 4 TIMEZONE 0 5) ∷
    claim "its own 9 first, in a block" (load (at Timetbls (omit 11 1) (edit Timetbls (put 10 "+DDD    ,2430,2510")))) (refused 9 TIMETBLS 1 9) ∷
    -- a `#` line opens the next block even if it is itself broken
    claim "a broken `#`" (load (edit Timetbls (put 12 "#0000008"))) (refused 4 TIMETBLS 2 1) ∷
    -- "Block test 10 comes after the block's lines."
    claim "10, and a 9 in the block's last line"
    (load (at Timetbls (put 11 "<DDD    ,2600") (edit Timetbls (put 3 "%100,00012,NACHT  ,000,004,                              "))))
    (refused 9 TIMETBLS 1 10) ∷
    claim "10, and a stray line after `<`"
    (load (at Timetbls (insert 12 ";BBB    ") (edit Timetbls (put 3 "%100,00012,NACHT  ,000,004,                              "))))
    (refused 7 TIMETBLS 1 11) ∷
    claim "10, and a block unfinished"
    (load (at Timetbls (omit 11 1) (edit Timetbls (put 3 "%100,00012,NACHT  ,000,004,                              "))))
    (refused 7 TIMETBLS 1 9) ∷
    -- and before the next block
    claim "10, and a broken `#` after it"
    (load (at Timetbls (put 12 "#") (edit Timetbls (put 3 "%100,00012,NACHT  ,000,004,                              "))))
    (refused 10 TIMETBLS 1 1) ∷
    claim "10 in two blocks"
    (load
    (at Timetbls (put 13 "%200,00013,       ,001,002,                              ")
    (edit Timetbls (put 3 "%100,00012,NACHT  ,000,004,                              "))))
    (refused 10 TIMETBLS 1 1) ∷
    claim "10 before CHANGES" (load (at (Groups Changes) (put 2 "") (at Timetbls (put 25 "&BOAT,003,999") (edit Timetbls (put 26 ">BBB    ,0100")))))
    (refused 10 TIMETBLS 3 1) ∷
    -- "the first line of the file is block 0, line 1"
    claim "TIMETBLS' first line, and a block that is wrong"
    (load (at Timetbls (put 2 "#") (edit Timetbls (put 1 "@100,01011615,10011615,0001,Cases                          "))))
    (refused 4 TIMETBLS 0 1) ∷
    []

pub at_the_end_hold : Hold at_the_end
unfolding opened
at_the_end_hold = (refl, (refl, (refl, (refl, (refl, (refl, (refl, (refl, (refl, (refl, (refl, (refl, (refl, (refl, tt))))))))))))))
