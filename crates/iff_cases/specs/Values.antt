-- "Values" and "Times": a case on each side of every border.
use Prim.{tt}
use Rattle.std.specs.Prelude.{refl, List, [], ◌∷◌, ◌++◌, ℕ, zero, suc, ◌+◌, ◌/◌, ◌%◌, replicate}
use Rattle.iff.specs.declared.RowFile.TheVariants.{Company, Country, Trnsmode, Stations}
use Rattle.iff.specs.declared.GroupFile.TheVariants.{Timezone, Footnote, Changes, Xfootnote, Xchanges}
use Rattle.iff.specs.declared.File.TheVariants.{Delivery, Rows, Groups, Timetbls}
use Rattle.small_delivery.specs.Claims.{Claim, claim, Hold}
use Rattle.small_delivery.specs.Opened.{opened}
use Rattle.small_delivery.specs.Delivery.{small, put, insert, at, edit, files, headed, header}
use Rattle.small_delivery.specs.Shown.{accepted, refused, DELIVERY, COMPANY, COUNTRY, TRNSMODE, TIMEZONE, STATIONS, FOOTNOTE, TIMETBLS, CHANGES}
use Rattle.small_delivery.specs.Shown.{XFOOTNOTE, XCHANGES, room_for, load, load_of, Shown, shown}
use Prim.Native.String.{String}
use Rattle.iff.specs.Files.{PerFile, per_file}
use Rattle.iff_rules.specs.Load.{load_answer}
use Rattle.iff.specs.Bytes.{bytes}
use Rattle.small_delivery.specs.Text.{text_of, lines_of}

-- n modes with two digits as their codes and texts, from number k on
abbrev two_digits : ℕ → List ℕ
two_digits k = (48 + k / 10) ∷ (48 + k % 10) ∷ []

abbrev numbered : ℕ → ℕ → List (List ℕ)
numbered zero k = []
numbered (suc n) k = (two_digits k ++ (bytes "  ," ++ (two_digits k ++ replicate 28 32))) ∷ numbered n (suc k)

-- the small delivery with n more modes, and some lines behind them
abbrev modes : ℕ → List (List ℕ) → PerFile (List ℕ)
modes n more = at (Rows Trnsmode) (λ s. s ++ text_of (numbered n 10 ++ more)) (files small)

-- one service of n stops between its first and its last, and no CHANGES
abbrev long_service : ℕ → List (List ℕ)
long_service n =
    lines_of
    (header
    ∷ "#00000007"
    ∷ "%100,00012,       ,000,999,                              "
    ∷ "-00001,000,999"
    ∷ "&BOAT,000,999"
    ∷ ">AAA    ,0330"
    ∷ [])
    ++ (replicate n (bytes ".BBB    ,0400") ++ (bytes "<AAA    ,2600" ∷ []))

abbrev stops : ℕ → PerFile (List ℕ)
stops n = at (Groups Changes) (λ s. []) (at Timetbls (λ s. text_of (long_service n)) (files small))

-- a load into tables with room for 1,014 lines
abbrev load_wide : PerFile (List ℕ) → Shown
load_wide F = shown (load_answer F (per_file (room_for 1014)))

-- the first line of a delivery of one day
abbrev header1 : String
header1 = "@100,01011615,01011615,0001,Cases                         "

-- "Values": numbers
abbrev pub figures : List Claim
figures =
    -- "Fields not code, free text or unread are numbers, all digits."
    claim "first line's company" (load (edit Delivery (put 1 "@1 0,01011615,10011615,0001,Cases                         ")))
    (refused 5 DELIVERY 0 1) ∷
    claim "first line's version" (load (edit Delivery (put 1 "@100,01011615,10011615,00.1,Cases                         ")))
    (refused 5 DELIVERY 0 1) ∷
    claim "a day turn" (load (edit (Rows Company) (put 2 "100,FERRY     ,Ferry Lines                   ,04 0"))) (refused 5 COMPANY 0 2) ∷
    claim "inland" (load (edit (Rows Country) (put 2 "NL  , ,Netherlands                   "))) (refused 5 COUNTRY 0 2) ∷
    claim "a zone" (load (edit (Groups Timezone) (put 2 "#00 0"))) (refused 5 TIMEZONE 0 2) ∷
    claim "a period's hours" (load (edit (Groups Timezone) (put 3 "+0 ,01011615,05011615"))) (refused 5 TIMEZONE 0 3) ∷
    claim "a change flag" (load (edit (Rows Stations) (put 2 " ,AAA    ,05,  ,NL  ,0000,  ,000000,000000,Pier                          ")))
    (refused 5 STATIONS 0 2) ∷
    claim "a change time" (load (edit (Rows Stations) (put 3 "0,BBB    ,1A,  ,NL  ,0001,  ,000000,000000,Quay                          ")))
    (refused 5 STATIONS 0 3) ∷
    claim "a footnote's number" (load (edit (Groups Footnote) (put 4 "#0000B"))) (refused 5 FOOTNOTE 0 4) ∷
    claim "a service's number" (load (edit Timetbls (put 12 "#0000000A"))) (refused 5 TIMETBLS 2 1) ∷
    claim "a train's number" (load (edit Timetbls (put 3 "%100,0001x,NACHT  ,000,999,Night boat                    "))) (refused 5 TIMETBLS 1 2) ∷
    claim "a first stop" (load (edit Timetbls (put 4 "-00001,0 1,999"))) (refused 5 TIMETBLS 1 3) ∷
    claim "a platform's footnote" (load (edit Timetbls (put 8 "?1    ,     ,0000 "))) (refused 5 TIMETBLS 1 7) ∷
    claim "a pair's service" (load (edit (Groups Changes) (put 3 "-0000000 ,00000008,01"))) (refused 5 CHANGES 0 3) ∷
    claim "an exception's time" (load (edit (Groups Xchanges) (put 3 "-100,*   ,*  ,*   ,02 ,00001"))) (refused 5 XCHANGES 0 3) ∷
    []

pub figures_hold : Hold figures
unfolding opened
figures_hold = (refl, (refl, (refl, (refl, (refl, (refl, (refl, (refl, (refl, (refl, (refl, (refl, (refl, (refl, (refl, tt)))))))))))))))

-- "Values": codes
abbrev pub codes : List Claim
codes =
    -- any digit is a change flag: 0 forbids, all others allow
    claim "flag 9" (load (edit (Rows Stations) (put 2 "9,AAA    ,05,  ,NL  ,0000,  ,000000,000000,Pier                          "))) (accepted 10 3) ∷
    -- "Codes (station, mode, country, attribute) are not all blank"
    claim "a blank country" (load (edit (Rows Country) (put 2 "    ,1,Netherlands                   "))) (refused 5 COUNTRY 0 2) ∷
    claim "a blank mode" (load (edit (Rows Trnsmode) (put 3 "    ,Ferry                         "))) (refused 5 TRNSMODE 0 3) ∷
    claim "a mode of one byte in the field's midst" (load (edit (Rows Trnsmode) (insert 4 "  X ,Extra                         "))) (accepted 10 3) ∷
    claim "a blank short name" (load (edit (Rows Stations) (put 4 "1,       ,99,  ,NL  ,0000,  ,000000,000000,Terminal                      ")))
    (refused 5 STATIONS 0 4) ∷
    -- blank is 5, and not a reference that is not met
    claim "a station's country blank"
    (load (edit (Rows Stations) (put 2 "1,AAA    ,05,  ,    ,0000,  ,000000,000000,Pier                          ")))
    (refused 5 STATIONS 0 2) ∷
    claim "a blank attribute" (load (edit Timetbls (put 6 "*    ,001,002,00001"))) (refused 5 TIMETBLS 1 5) ∷
    claim "a passed station blank" (load (edit Timetbls (put 9 ";       "))) (refused 5 TIMETBLS 1 8) ∷
    claim "a blank mode in XCHANGES" (load (edit (Groups Xchanges) (put 6 "-200,    ,*  ,*   ,999,00001"))) (refused 5 XCHANGES 0 6) ∷
    []

pub codes_hold : Hold codes
unfolding opened
codes_hold = (refl, (refl, (refl, (refl, (refl, (refl, (refl, (refl, (refl, tt)))))))))

-- "Values": free text and unread columns
abbrev pub texts : List Claim
texts =
    -- "Free text may be blank: names, descriptions, variant, platforms, company code."
    claim "a blank company code and name" (load (edit (Rows Company) (put 2 "100,          ,                              ,0400"))) (accepted 10 3) ∷
    claim "a blank country name" (load (edit (Rows Country) (put 2 "NL  ,1,                              "))) (accepted 10 3) ∷
    claim "a blank mode's text" (load (edit (Rows Trnsmode) (put 2 "IC  ,                              "))) (accepted 10 3) ∷
    claim "a blank station name" (load (edit (Rows Stations) (put 2 "1,AAA    ,05,  ,NL  ,0000,  ,000000,000000,                              ")))
    (accepted 10 3) ∷
    claim "a blank first line's text" (load (headed "@100,01011615,10011615,0001,                              " small)) (accepted 10 3) ∷
    claim "blank variant and name, blank platforms"
    (load (at Timetbls (put 8 "?     ,     ,00001") (edit Timetbls (put 3 "%100,00012,       ,000,999,                              "))))
    (accepted 10 3) ∷
    -- "STATIONS 14-15, 27-28, x and y are not read; any allowed bytes pass."
    claim "unread columns" (load (edit (Rows Stations) (put 2 "1,AAA    ,05,~,,NL  ,0000, ÿ,x:'!,.,\u{a0}¡-;?@,Pier                          ")))
    (accepted 10 3) ∷
    claim "a byte that is not allowed in an unread column is 4"
    (load (edit (Rows Stations) (put 2 "1,AAA    ,05,0\u{7f},NL  ,0000,  ,000000,000000,Pier                          ")))
    (refused 4 STATIONS 0 2) ∷
    []

pub texts_hold : Hold texts
unfolding opened
texts_hold = (refl, (refl, (refl, (refl, (refl, (refl, (refl, (refl, tt))))))))

-- "Values": what numbers may be
abbrev pub numbers : List Claim
numbers =
    -- "Company number is 1 or more."
    claim "company 000" (load (edit (Rows Company) (insert 4 "000,NONE      ,Nobody                        ,0000"))) (refused 5 COMPANY 0 4) ∷
    claim "company 001" (load (edit (Rows Company) (insert 4 "001,ONE       ,Somebody                      ,0000"))) (accepted 10 3) ∷
    -- "Inland is 0 or 1."
    claim "inland 0" (load (edit (Rows Country) (put 2 "NL  ,0,Netherlands                   "))) (accepted 10 3) ∷
    claim "inland 2" (load (edit (Rows Country) (put 2 "NL  ,2,Netherlands                   "))) (refused 5 COUNTRY 0 2) ∷
    -- "Day turn is below 2400 with minutes below 60."
    claim "turn 2359" (load (edit (Rows Company) (put 3 "200,NIGHT     ,Night Trains                  ,2359"))) (accepted 10 3) ∷
    claim "turn 2400" (load (edit (Rows Company) (put 3 "200,NIGHT     ,Night Trains                  ,2400"))) (refused 5 COMPANY 0 3) ∷
    claim "turn 0059" (load (edit (Rows Company) (put 3 "200,NIGHT     ,Night Trains                  ,0059"))) (accepted 10 3) ∷
    claim "turn 0060" (load (edit (Rows Company) (put 3 "200,NIGHT     ,Night Trains                  ,0060"))) (refused 5 COMPANY 0 3) ∷
    -- "Possibility is 00, 01 or 02."
    claim "possibility 02" (load (edit (Groups Changes) (put 3 "-00000007,00000008,02"))) (accepted 10 3) ∷
    claim "possibility 03" (load (edit (Groups Changes) (put 3 "-00000007,00000008,03"))) (refused 5 CHANGES 0 3) ∷
    []

pub numbers_hold : Hold numbers
unfolding opened
numbers_hold = (refl, (refl, (refl, (refl, (refl, (refl, (refl, (refl, (refl, (refl, tt))))))))))

-- "Values": wildcards
abbrev pub wildcards : List Claim
wildcards =
    -- "In XCHANGES a company or mode may be `*` followed by blanks."
    claim "company `** `" (load (edit (Groups Xchanges) (put 3 "-** ,*   ,*  ,*   ,020,00001"))) (refused 5 XCHANGES 0 3) ∷
    claim "company ` * `" (load (edit (Groups Xchanges) (put 3 "- * ,*   ,*  ,*   ,020,00001"))) (refused 5 XCHANGES 0 3) ∷
    claim "company `1  `" (load (edit (Groups Xchanges) (put 3 "-1  ,*   ,*  ,*   ,020,00001"))) (refused 5 XCHANGES 0 3) ∷
    claim "to company `*0 `" (load (edit (Groups Xchanges) (put 3 "-100,*   ,*0 ,*   ,020,00001"))) (refused 5 XCHANGES 0 3) ∷
    -- ` *  ` is a code like any other, and TRNSMODE has none such
    claim "mode ` *  `" (load (edit (Groups Xchanges) (put 3 "-100, *  ,*  ,*   ,020,00001"))) (refused 9 XCHANGES 0 3) ∷
    claim "all four wild" (load (edit (Groups Xchanges) (put 3 "-*  ,*   ,*  ,*   ,020,00001"))) (accepted 10 3) ∷
    -- the wildcard stays one where TRNSMODE has a code `*`
    claim "a mode `*`" (load (edit (Rows Trnsmode) (insert 4 "*   ,Star                          "))) (accepted 10 3) ∷
    []

pub wildcards_hold : Hold wildcards
unfolding opened
wildcards_hold = (refl, (refl, (refl, (refl, (refl, (refl, (refl, tt)))))))

-- "Values": at most 64 modes
abbrev pub modes_most : List Claim
modes_most =
    -- "At most 64 modes .. the line beyond is 5." (the first line, IC, BOAT and 62 more)
    claim "64 modes" (load_of (modes 62 [])) (accepted 10 3) ∷
    claim "65 modes" (load_of (modes 63 [])) (refused 5 TRNSMODE 0 66) ∷
    -- 5 before 8: the 65th mode is a duplicate too
    claim "a 65th mode that is there already" (load_of (modes 62 (bytes "IC  ,Intercity                     " ∷ []))) (refused 5 TRNSMODE 0 66) ∷
    -- the 64th may be a duplicate
    claim "a 64th mode that is there already" (load_of (modes 61 (bytes "IC  ,Intercity                     " ∷ []))) (refused 8 TRNSMODE 0 65) ∷
    []

pub modes_most_hold : Hold modes_most
unfolding opened
modes_most_hold = (refl, (refl, (refl, (refl, tt))))

-- "Values": at most 998 stops in a service
abbrev pub stops_most : List Claim
stops_most =
    -- "at most 998 stops in a service; the line beyond is 5" (`#`, `%`, `-`, `&`, `>` and 996 more, `<`)
    claim "998 stops" (load_wide (stops 996)) (accepted 10 1) ∷
    claim "999 stops" (load_wide (stops 997)) (refused 5 TIMETBLS 1 1003) ∷
    []

pub stops_most_hold : Hold stops_most
unfolding opened
stops_most_hold = (refl, (refl, tt))

-- "Values": days
abbrev pub days : List Claim
days =
    -- "Days are DDMMYYYY, Gregorian"
    claim "first day 31 April" (load (edit Delivery (put 1 "@100,31041615,10011615,0001,Cases                         "))) (refused 5 DELIVERY 0 1) ∷
    claim "first day 00" (load (edit Delivery (put 1 "@100,00011615,10011615,0001,Cases                         "))) (refused 5 DELIVERY 0 1) ∷
    claim "last day's month 13" (load (edit Delivery (put 1 "@100,01011615,01131615,0001,Cases                         "))) (refused 5 DELIVERY 0 1) ∷
    claim "last day's month 00" (load (edit Delivery (put 1 "@100,01011615,01001615,0001,Cases                         "))) (refused 5 DELIVERY 0 1) ∷
    claim "29 February of a year that is no leap year" (load (edit (Groups Timezone) (put 4 "+02,06011615,29021615"))) (refused 5 TIMEZONE 0 4) ∷
    claim "29 February of a leap year" (load (edit (Groups Timezone) (put 4 "+02,06011615,29021616"))) (accepted 10 3) ∷
    claim "30 February" (load (edit (Groups Timezone) (put 4 "+02,06011615,30021616"))) (refused 5 TIMEZONE 0 4) ∷
    claim "29 February 1700" (load (edit (Groups Timezone) (put 4 "+02,06011615,29021700"))) (refused 5 TIMEZONE 0 4) ∷
    claim "31 December" (load (edit (Groups Timezone) (put 4 "+02,06011615,31121615"))) (accepted 10 3) ∷
    claim "32 December" (load (edit (Groups Timezone) (put 4 "+02,06011615,32121615"))) (refused 5 TIMEZONE 0 4) ∷
    -- "years 1600 to 9999"
    claim "31121599" (load (edit (Groups Timezone) (put 6 "-01,31121599,14011615"))) (refused 5 TIMEZONE 0 6) ∷
    claim "01011600" (load (edit (Groups Timezone) (put 6 "-01,01011600,14011615"))) (accepted 10 3) ∷
    claim "31129999" (load (edit (Groups Timezone) (put 4 "+02,06011615,31129999"))) (accepted 10 3) ∷
    -- "first not after last"
    claim "a period of one day" (load (edit (Groups Timezone) (insert 5 "+01,05011616,05011616"))) (accepted 10 3) ∷
    claim "a period that ends before it begins" (load (edit (Groups Timezone) (put 3 "+01,05011615,04011615"))) (refused 5 TIMEZONE 0 3) ∷
    -- compared as days, and not as numbers
    claim "a period over the year's end" (load (edit (Groups Timezone) (put 6 "-01,31121614,14011615"))) (accepted 10 3) ∷
    claim "a delivery that ends before it begins" (load (edit Delivery (put 1 "@100,11011615,10011615,0001,Cases                         ")))
    (refused 5 DELIVERY 0 1) ∷
    claim "a delivery of one day"
    (load
    (at (Groups Footnote) (λ ls. header1 ∷ "#00001" ∷ "1" ∷ "#00002" ∷ "0" ∷ [])
    (at (Groups Xfootnote) (λ ls. header1 ∷ "#00001" ∷ "1" ∷ "#00002" ∷ "0" ∷ []) (headed header1 small))))
    (accepted 1 3) ∷
    []

pub days_hold : Hold days
unfolding opened
days_hold =
    (refl, (refl, (refl, (refl, (refl, (refl, (refl, (refl, (refl, (refl, (refl, (refl, (refl, (refl, (refl, (refl, (refl, (refl, tt))))))))))))))))))

-- "Values": vectors
abbrev pub marks : List Claim
marks =
    -- "A wrong character in a vector is 5, in its first place 4."
    claim "2 in a vector" (load (edit (Groups Footnote) (put 3 "1111112111"))) (refused 5 FOOTNOTE 0 3) ∷
    claim "2 in a vector's last place" (load (edit (Groups Xfootnote) (put 5 "0001100002"))) (refused 5 XFOOTNOTE 0 5) ∷
    claim "2 in a vector's first place" (load (edit (Groups Footnote) (put 3 "2111111111"))) (refused 4 FOOTNOTE 0 3) ∷
    claim "a blank in a vector's first place" (load (edit (Groups Xfootnote) (put 3 " 111100000"))) (refused 4 XFOOTNOTE 0 3) ∷
    -- "one per day of validity"
    claim "nine marks" (load (edit (Groups Footnote) (put 5 "101010101"))) (refused 4 FOOTNOTE 0 5) ∷
    claim "eleven marks" (load (edit (Groups Xfootnote) (put 5 "00011000000"))) (refused 4 XFOOTNOTE 0 5) ∷
    []

pub marks_hold : Hold marks
unfolding opened
marks_hold = (refl, (refl, (refl, (refl, (refl, (refl, tt))))))

-- "Times"
abbrev pub times : List Claim
times =
    -- "HHMM, hours 00 to 99, minutes 00 to 59."
    claim "0000" (load (edit Timetbls (put 17 ">CCC    ,0000"))) (accepted 10 3) ∷
    claim "9959" (load (edit Timetbls (put 11 "<AAA    ,9959"))) (accepted 10 3) ∷
    claim "9960" (load (edit Timetbls (put 11 "<AAA    ,9960"))) (refused 5 TIMETBLS 1 10) ∷
    claim "0060" (load (edit Timetbls (put 7 ">AAA    ,0060"))) (refused 5 TIMETBLS 1 6) ∷
    -- "9999 is no time: in `+` only"
    claim "9999 in `>`" (load (edit Timetbls (put 17 ">CCC    ,9999"))) (refused 5 TIMETBLS 2 6) ∷
    claim "9999 in `.`" (load (edit Timetbls (put 18 ".BBB    ,9999"))) (refused 5 TIMETBLS 2 7) ∷
    claim "9999 in `<`" (load (edit Timetbls (put 19 "<AAA    ,9999"))) (refused 5 TIMETBLS 2 8) ∷
    -- "for one of the two"
    claim "arrival 9999" (load (edit Timetbls (put 10 "+CCC    ,9999,2510"))) (accepted 10 3) ∷
    claim "departure 9999" (load (edit Timetbls (put 10 "+CCC    ,2430,9999"))) (accepted 10 3) ∷
    claim "both 9999" (load (edit Timetbls (put 10 "+CCC    ,9999,9999"))) (refused 5 TIMETBLS 1 9) ∷
    claim "arrival 9999, departure 9960" (load (edit Timetbls (put 10 "+CCC    ,9999,9960"))) (refused 5 TIMETBLS 1 9) ∷
    claim "arrival 0060, departure 9999" (load (edit Timetbls (put 10 "+CCC    ,0060,9999"))) (refused 5 TIMETBLS 1 9) ∷
    -- "In `+` the arrival is before the departure where both are times."
    claim "a minute before" (load (edit Timetbls (put 10 "+CCC    ,2459,2500"))) (accepted 10 3) ∷
    claim "the same minute" (load (edit Timetbls (put 10 "+CCC    ,2500,2500"))) (refused 5 TIMETBLS 1 9) ∷
    claim "a minute after" (load (edit Timetbls (put 10 "+CCC    ,2501,2500"))) (refused 5 TIMETBLS 1 9) ∷
    -- times need not rise along a service, and a station may come again
    claim "earlier at the next stop" (load (edit Timetbls (put 18 ".CCC    ,0029"))) (accepted 10 3) ∷
    []

pub times_hold : Hold times
unfolding opened
times_hold = (refl, (refl, (refl, (refl, (refl, (refl, (refl, (refl, (refl, (refl, (refl, (refl, (refl, (refl, (refl, (refl, tt))))))))))))))))
