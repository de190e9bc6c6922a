-- "Unique": a case on each side of every border.
use Prim.{tt}
use Rattle.std.specs.Prelude.{refl, List, [], ◌∷◌}
use Rattle.iff.specs.declared.RowFile.TheVariants.{Company, Country, Trnsmode, Stations}
use Rattle.iff.specs.declared.GroupFile.TheVariants.{Timezone, Footnote, Changes, Xfootnote, Xchanges}
use Rattle.iff.specs.declared.File.TheVariants.{Rows, Groups, Timetbls}
use Rattle.small_delivery.specs.Claims.{Claim, claim, Hold}
use Rattle.small_delivery.specs.Opened.{opened}
use Rattle.small_delivery.specs.Delivery.{small, put, insert, at, edit}
use Rattle.small_delivery.specs.Shown.{accepted, refused, COMPANY, COUNTRY, TRNSMODE, TIMEZONE, STATIONS, FOOTNOTE, TIMETBLS, CHANGES, XFOOTNOTE}
use Rattle.small_delivery.specs.Shown.{XCHANGES, load}

-- "Unique": keys and texts
abbrev pub keys_once : List Claim
keys_once =
    -- "Company number, code and name"
    claim "another company" (load (edit (Rows Company) (insert 4 "300,THIRD     ,Third                         ,0000"))) (accepted 10 3) ∷
    claim "a company's number again" (load (edit (Rows Company) (insert 4 "200,THIRD     ,Third                         ,0000")))
    (refused 8 COMPANY 0 4) ∷
    claim "a company's code again" (load (edit (Rows Company) (insert 4 "300,FERRY     ,Third                         ,0000")))
    (refused 8 COMPANY 0 4) ∷
    claim "a company's name again" (load (edit (Rows Company) (insert 4 "300,THIRD     ,Night Trains                  ,0000")))
    (refused 8 COMPANY 0 4) ∷
    -- a code and a name may be the same, of one company or two
    claim "a name that is another's code" (load (edit (Rows Company) (insert 4 "300,THIRD     ,FERRY                         ,0000")))
    (accepted 10 3) ∷
    -- blank texts count as texts
    claim "two blank codes"
    (load
    (at (Rows Company) (put 3 "200,          ,Night Trains                  ,0000")
    (edit (Rows Company) (put 2 "100,          ,Ferry Lines                   ,0400"))))
    (refused 8 COMPANY 0 3) ∷
    -- "country code and name"
    claim "another country" (load (edit (Rows Country) (insert 3 "B   ,0,Belgium                       "))) (accepted 10 3) ∷
    claim "a country's code again" (load (edit (Rows Country) (insert 3 "NL  ,0,Belgium                       "))) (refused 8 COUNTRY 0 3) ∷
    claim "a country's name again" (load (edit (Rows Country) (insert 3 "B   ,0,Netherlands                   "))) (refused 8 COUNTRY 0 3) ∷
    -- "compared over the whole field"
    claim "a country's code elsewhere in the field" (load (edit (Rows Country) (insert 3 " NL ,0,Belgium                       "))) (accepted 10 3) ∷
    -- "mode code and text"
    claim "a mode's code again" (load (edit (Rows Trnsmode) (insert 4 "IC  ,Extra                         "))) (refused 8 TRNSMODE 0 4) ∷
    claim "a mode's text again" (load (edit (Rows Trnsmode) (insert 4 "X   ,Ferry                         "))) (refused 8 TRNSMODE 0 4) ∷
    []

pub keys_once_hold : Hold keys_once
unfolding opened
keys_once_hold = (refl, (refl, (refl, (refl, (refl, (refl, (refl, (refl, (refl, (refl, (refl, (refl, tt))))))))))))

-- "Unique": keys of groups and blocks, and short names
abbrev pub later_keys_once : List Claim
later_keys_once =
    -- "zone"
    claim "a zone again" (load (edit (Groups Timezone) (put 5 "#0000"))) (refused 8 TIMEZONE 0 5) ∷
    -- "short name"
    claim "a short name again" (load (edit (Rows Stations) (insert 5 "1,AAA    ,05,  ,NL  ,0000,  ,000000,000000,Elsewhere                     ")))
    (refused 8 STATIONS 0 5) ∷
    -- station names need not be unique
    claim "a station's name again"
    (load (edit (Rows Stations) (insert 5 "1,DDD    ,05,  ,NL  ,0000,  ,000000,000000,Pier                          ")))
    (accepted 10 3) ∷
    -- "footnote within its file" (00001 is in both files of the small delivery)
    claim "a footnote again" (load (edit (Groups Footnote) (put 4 "#00001"))) (refused 8 FOOTNOTE 0 4) ∷
    claim "a footnote of XFOOTNOTE again" (load (edit (Groups Xfootnote) (put 4 "#00001"))) (refused 8 XFOOTNOTE 0 4) ∷
    -- "service"
    claim "a service again" (load (edit Timetbls (put 12 "#00000007"))) (refused 8 TIMETBLS 2 1) ∷
    claim "a service again, two blocks later" (load (edit Timetbls (put 20 "#00000007"))) (refused 8 TIMETBLS 3 1) ∷
    []

pub later_keys_once_hold : Hold later_keys_once
unfolding opened
later_keys_once_hold = (refl, (refl, (refl, (refl, (refl, (refl, (refl, tt)))))))

-- "Unique": within a group
abbrev pub groups_once : List Claim
groups_once =
    -- "station within CHANGES and within XCHANGES"
    claim "a station of CHANGES again" (load (edit (Groups Changes) (put 5 "#CCC    "))) (refused 8 CHANGES 0 5) ∷
    claim "a station of XCHANGES again" (load (edit (Groups Xchanges) (put 7 "#AAA    "))) (refused 8 XCHANGES 0 7) ∷
    -- "a pair of services under one CHANGES station"
    claim "a pair again, with another possibility" (load (edit (Groups Changes) (put 4 "-00000007,00000008,00"))) (refused 8 CHANGES 0 4) ∷
    -- a pair is ordered
    claim "a pair the other way round" (load (edit (Groups Changes) (put 4 "-00000008,00000007,01"))) (accepted 10 3) ∷
    claim "a pair of one service with itself" (load (edit (Groups Changes) (put 4 "-00000007,00000007,01"))) (accepted 10 3) ∷
    claim "a pair again under another station" (load (edit (Groups Changes) (put 6 "-00000007,00000008,01"))) (accepted 10 3) ∷
    -- "the four keys with footnote under one XCHANGES station"
    claim "the keys and the footnote again, with another time" (load (edit (Groups Xchanges) (put 5 "-100,*   ,*  ,*   ,099,00001")))
    (refused 8 XCHANGES 0 5) ∷
    claim "the keys again, with another footnote" (load (edit (Groups Xchanges) (insert 7 "-200,IC  ,*  ,*   ,999,00002"))) (accepted 10 3) ∷
    claim "one key differs" (load (edit (Groups Xchanges) (put 5 "-100,*   ,*  ,IC  ,099,00001"))) (accepted 10 3) ∷
    claim "the keys and the footnote again under another station" (load (edit (Groups Xchanges) (insert 8 "-100,*   ,*  ,*   ,020,00001")))
    (accepted 10 3) ∷
    -- "Periods of one zone do not overlap (counted as a duplicate)."
    claim "a day shared" (load (edit (Groups Timezone) (put 4 "+02,05011615,31121615"))) (refused 8 TIMEZONE 0 4) ∷
    claim "a period within another" (load (edit (Groups Timezone) (put 4 "+02,02011615,03011615"))) (refused 8 TIMEZONE 0 4) ∷
    claim "a period around another" (load (edit (Groups Timezone) (put 4 "+02,01011614,31121615"))) (refused 8 TIMEZONE 0 4) ∷
    claim "a period before another that shares a day" (load (edit (Groups Timezone) (put 4 "+02,01011614,01011615"))) (refused 8 TIMEZONE 0 4) ∷
    claim "a period before another" (load (edit (Groups Timezone) (insert 5 "+03,01011614,31121614"))) (accepted 10 3) ∷
    -- the first and the third of a zone
    claim "a third period that shares a day with the first" (load (edit (Groups Timezone) (insert 5 "-03,05011615,05011615")))
    (refused 8 TIMEZONE 0 5) ∷
    -- periods of two zones may share days, as those of the small delivery do
    claim "the small delivery" (load small) (accepted 10 3) ∷
    []

pub groups_once_hold : Hold groups_once
unfolding opened
groups_once_hold =
    (refl, (refl, (refl, (refl, (refl, (refl, (refl, (refl, (refl, (refl, (refl, (refl, (refl, (refl, (refl, (refl, (refl, tt)))))))))))))))))
