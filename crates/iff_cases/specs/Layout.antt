-- The records' lengths; layout, refusal 4; first lines, refusal 6.
use Prim.{tt}
use Rattle.std.specs.Prelude.{ℕ, refl, List, [], ◌∷◌, map, length}
use Rattle.iff.specs.Columns.{record_fields, picture, form424}
use Rattle.iff.specs.declared.Record.{Record}
use Rattle.iff.specs.declared.Record.TheVariants.{FirstRecord, CompanyRow, CountryRow, ModeRow, ZoneHead, ZonePeriod, StationRow, FootnoteHead}
use Rattle.iff.specs.declared.Record.TheVariants.{FootnoteVector, ServiceHead, TrainNumber, Validity, Transport, Attribute, PlainStop, Interval}
use Rattle.iff.specs.declared.Record.TheVariants.{Passed, Platform, ChangeHead, ChangePair, ChangeException}
use Rattle.iff.specs.declared.RowFile.TheVariants.{Company, Country, Trnsmode, Stations}
use Rattle.iff.specs.declared.GroupFile.TheVariants.{Timezone, Footnote, Changes, Xfootnote, Xchanges}
use Rattle.iff.specs.declared.File.TheVariants.{Delivery, Rows, Groups, Timetbls}
use Rattle.small_delivery.specs.Claims.{Claim, claim, Hold}
use Rattle.small_delivery.specs.Opened.{opened}
use Rattle.small_delivery.specs.Delivery.{small, put, insert, at, edit, files, short}
use Rattle.small_delivery.specs.Shown.{accepted, refused, DELIVERY, COMPANY, COUNTRY, TRNSMODE, TIMEZONE, STATIONS, FOOTNOTE, TIMETBLS, CHANGES}
use Rattle.small_delivery.specs.Shown.{XFOOTNOTE, XCHANGES, load, load_of}

-- the Columns table, from the first line's record to XCHANGES' row
abbrev records : List Record
records =
    FirstRecord ∷ CompanyRow ∷ CountryRow ∷ ModeRow ∷ ZoneHead ∷ ZonePeriod ∷ StationRow ∷ FootnoteHead ∷ FootnoteVector ∷ ServiceHead
    ∷ TrainNumber ∷ Validity ∷ Transport ∷ Attribute ∷ PlainStop ∷ Interval ∷ Passed ∷ Platform ∷ ChangeHead ∷ ChangePair ∷ ChangeException ∷ []

-- a record's length in a delivery of 4.2.4 over some days
abbrev length_in : ℕ → Record → ℕ
length_in days r = length (picture (record_fields (form424 days) r))

abbrev pub lengths : List Claim
lengths =
    claim "in ten days" (map (length_in 10) records)
    (58 ∷ 50 ∷ 37 ∷ 35 ∷ 5 ∷ 21 ∷ 73 ∷ 6 ∷ 10 ∷ 9 ∷ 57 ∷ 14 ∷ 13 ∷ 19 ∷ 13 ∷ 18 ∷ 8 ∷ 18 ∷ 8 ∷ 21 ∷ 28 ∷ []) ∷
    claim "a vector of 800 days" (length_in 800 FootnoteVector) 800 ∷
    []

pub lengths_hold : Hold lengths
unfolding opened
lengths_hold = (refl, (refl, tt))

-- refusal 4: length
abbrev pub layouts : List Claim
layouts =
    -- "Each line has its full length (desk)."
    claim "DELIVERY's line too short" (load (edit Delivery (put 1 "@100,01011615,10011615,0001,Cases                        ")))
    (refused 4 DELIVERY 0 1) ∷
    claim "a company's line too short" (load (edit (Rows Company) (put 2 "100,FERRY     ,Ferry Lines                   ,040")))
    (refused 4 COMPANY 0 2) ∷
    claim "a company's line too long" (load (edit (Rows Company) (put 2 "100,FERRY     ,Ferry Lines                   ,0400 ")))
    (refused 4 COMPANY 0 2) ∷
    claim "a station's line too short"
    (load (edit (Rows Stations) (put 4 "1,CCC    ,99,  ,NL  ,0000,  ,000000,000000,Terminal                     ")))
    (refused 4 STATIONS 0 4) ∷
    claim "a service's line too long" (load (edit Timetbls (put 2 "#000000007"))) (refused 4 TIMETBLS 1 1) ∷
    -- source document 003's `%` has a narrower variant
    claim "a `%` of 56 bytes" (load (edit Timetbls (put 3 "%100,00012,NACHT ,000,999,Night boat                    "))) (refused 4 TIMETBLS 1 2) ∷
    claim "a stop's line too short" (load (edit Timetbls (put 19 "<AAA    ,030"))) (refused 4 TIMETBLS 2 8) ∷
    claim "`.` with two times" (load (edit Timetbls (put 18 ".BBB    ,0200,0210"))) (refused 4 TIMETBLS 2 7) ∷
    claim "`+` with one time" (load (edit Timetbls (put 10 "+CCC    ,2430"))) (refused 4 TIMETBLS 1 9) ∷
    claim "an exception's line in CHANGES" (load (edit (Groups Changes) (put 3 "-100,*   ,*  ,*   ,020,00001"))) (refused 4 CHANGES 0 3) ∷
    claim "an empty row" (load (edit (Rows Company) (insert 4 ""))) (refused 4 COMPANY 0 4) ∷
    []

pub layouts_hold : Hold layouts
unfolding opened
layouts_hold = (refl, (refl, (refl, (refl, (refl, (refl, (refl, (refl, (refl, (refl, (refl, tt)))))))))))

-- refusal 4: comma, byte, missing CR LF
abbrev pub columns : List Claim
columns =
    -- "a comma stands in each gap"
    claim "a blank in a gap" (load (edit (Rows Country) (put 2 "NL   1,Netherlands                   "))) (refused 4 COUNTRY 0 2) ∷
    claim "a semicolon in a gap" (load (edit (Groups Timezone) (put 6 "-01;01011615,14011615"))) (refused 4 TIMEZONE 0 6) ∷
    claim "a digit in a gap" (load (edit Timetbls (put 15 "-000010002,003"))) (refused 4 TIMETBLS 2 4) ∷
    -- a comma in a text is a byte like any other
    claim "commas in a text and in a code"
    (load
    (at (Rows Country) (insert 3 "B,, ,0,,                             ")
    (edit (Rows Company) (put 2 "100,F,E,R,R,Y ,Ferry, Lines,                 ,0400"))))
    (accepted 10 3) ∷
    -- "Allowed bytes are 32 to 126 and 160 to 255."
    claim "bytes 32, 126, 160 and 255" (load (edit (Rows Company) (put 2 "100,~\u{a0}ÿ       ,Ferry Lines                   ,0400")))
    (accepted 10 3) ∷
    claim "byte 31" (load (edit (Rows Company) (put 2 "100,FERRY     ,Ferry\u{1f}Lines                   ,0400"))) (refused 4 COMPANY 0 2) ∷
    claim "byte 127" (load (edit (Rows Country) (put 2 "NL  ,1,Nether\u{7f}lands                  "))) (refused 4 COUNTRY 0 2) ∷
    claim "byte 159" (load (edit (Rows Trnsmode) (put 2 "I\u{9f}  ,Intercity                     "))) (refused 4 TRNSMODE 0 2) ∷
    claim "byte 0" (load (edit Timetbls (put 8 "?\0    ,     ,00001"))) (refused 4 TIMETBLS 1 7) ∷
    -- "Lines end in CR LF": LF alone is a byte of the line, and not an allowed one
    claim "LF alone" (load (edit (Rows Company) (put 3 "200,NIGHT     ,Night\nTrains                  ,0000"))) (refused 4 COMPANY 0 3) ∷
    claim "CR alone" (load (edit (Groups Xchanges) (put 6 "-200,IC  ,*  ,*   ,999,0000\r"))) (refused 4 XCHANGES 0 6) ∷
    -- "a remainder without it counts as a line": "missing CR LF" is 4
    claim "no CR LF at the end of DELIVERY" (load_of (at Delivery (short 2) (files small))) (refused 4 DELIVERY 0 1) ∷
    claim "no CR LF at the end of COMPANY" (load_of (at (Rows Company) (short 2) (files small))) (refused 4 COMPANY 0 3) ∷
    claim "no LF at the end of XCHANGES" (load_of (at (Groups Xchanges) (short 1) (files small))) (refused 4 XCHANGES 0 7) ∷
    claim "no CR LF at the end of TIMETBLS" (load_of (at Timetbls (short 2) (files small))) (refused 4 TIMETBLS 3 11) ∷
    []

pub columns_hold : Hold columns
unfolding opened
columns_hold = (refl, (refl, (refl, (refl, (refl, (refl, (refl, (refl, (refl, (refl, (refl, (refl, (refl, (refl, (refl, tt)))))))))))))))

-- refusal 4: first byte; refusal 6
abbrev pub first_bytes : List Claim
first_bytes =
    -- "unknown first byte": "Known first bytes are `@` and the file's own letters."
    claim "`*` in TIMEZONE" (load (edit (Groups Timezone) (put 3 "*01,01011615,05011615"))) (refused 4 TIMEZONE 0 3) ∷
    claim "`!` in TIMETBLS" (load (edit Timetbls (put 3 "!100"))) (refused 4 TIMETBLS 1 2) ∷
    claim "`+` in CHANGES" (load (edit (Groups Changes) (put 3 "+00000007,00000008,01"))) (refused 4 CHANGES 0 3) ∷
    claim "`0` in XCHANGES" (load (edit (Groups Xchanges) (put 3 "0"))) (refused 4 XCHANGES 0 3) ∷
    claim "`-` in FOOTNOTE" (load (edit (Groups Footnote) (put 4 "-00002"))) (refused 4 FOOTNOTE 0 4) ∷
    -- an empty line has no known first byte
    claim "an empty line in TIMETBLS" (load (edit Timetbls (insert 12 ""))) (refused 4 TIMETBLS 1 11) ∷
    claim "an empty line where a vector is due" (load (edit (Groups Footnote) (put 3 ""))) (refused 4 FOOTNOTE 0 3) ∷
    claim "an empty line at the end of TIMEZONE" (load (edit (Groups Timezone) (insert 7 ""))) (refused 4 TIMEZONE 0 7) ∷
    claim "an unknown first byte before the first block" (load (edit Timetbls (insert 2 "!"))) (refused 4 TIMETBLS 0 2) ∷
    claim "an unknown first byte before the first group" (load (edit (Groups Xfootnote) (insert 2 "2"))) (refused 4 XFOOTNOTE 0 2) ∷
    -- "first line differs from DELIVERY's": 6, in any of its bytes
    claim "COMPANY's text" (load (edit (Rows Company) (put 1 "@100,01011615,10011615,0001,Case                          "))) (refused 6 COMPANY 0 1) ∷
    claim "STATIONS' last day" (load (edit (Rows Stations) (put 1 "@100,01011615,11011615,0001,Cases                         ")))
    (refused 6 STATIONS 0 1) ∷
    claim "TIMETBLS' version" (load (edit Timetbls (put 1 "@100,01011615,10011615,0002,Cases                         "))) (refused 6 TIMETBLS 0 1) ∷
    claim "XCHANGES' company" (load (edit (Groups Xchanges) (put 1 "@200,01011615,10011615,0001,Cases                         ")))
    (refused 6 XCHANGES 0 1) ∷
    claim "CHANGES' text, blank" (load (edit (Groups Changes) (put 1 "@100,01011615,10011615,0001,                              ")))
    (refused 6 CHANGES 0 1) ∷
    []

pub first_bytes_hold : Hold first_bytes
unfolding opened
first_bytes_hold = (refl, (refl, (refl, (refl, (refl, (refl, (refl, (refl, (refl, (refl, (refl, (refl, (refl, (refl, (refl, tt)))))))))))))))
