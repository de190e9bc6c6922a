-- "References": what is named must be in its own file.
use Prim.{tt}
use Rattle.std.specs.Prelude.{refl, List, [], ◌∷◌}
use Rattle.iff.specs.declared.RowFile.TheVariants.{Company, Country, Stations}
use Rattle.iff.specs.declared.GroupFile.TheVariants.{Timezone, Footnote, Changes, Xfootnote, Xchanges}
use Rattle.iff.specs.declared.File.TheVariants.{Rows, Groups, Timetbls}
use Rattle.small_delivery.specs.Claims.{Claim, claim, Hold}
use Rattle.small_delivery.specs.Opened.{opened}
use Rattle.small_delivery.specs.Delivery.{small, put, insert, omit, at, edit, headed}
use Rattle.small_delivery.specs.Shown.{accepted, refused, DELIVERY, COMPANY, STATIONS, TIMETBLS, CHANGES, XCHANGES, load}

-- "References": stations and blocks
abbrev pub named : List Claim
named =
    -- "Companies, modes, countries, zones, stations, services and footnotes named anywhere must be in their own file"
    claim "a station's country" (load (edit (Rows Stations) (put 2 "1,AAA    ,05,  ,B   ,0000,  ,000000,000000,Pier                          ")))
    (refused 9 STATIONS 0 2) ∷
    claim "a station's zone" (load (edit (Rows Stations) (put 4 "1,CCC    ,99,  ,NL  ,0002,  ,000000,000000,Terminal                      ")))
    (refused 9 STATIONS 0 4) ∷
    -- zone 0000 needs its own row like any other
    claim "zone 0000 not there" (load (edit (Groups Timezone) (omit 2 3))) (refused 9 STATIONS 0 2) ∷
    claim "a service's company" (load (edit Timetbls (put 3 "%300,00012,NACHT  ,000,999,Night boat                    "))) (refused 9 TIMETBLS 1 2) ∷
    -- company 000 named elsewhere than in COMPANY is 9
    claim "a service's company 000" (load (edit Timetbls (put 3 "%000,00012,NACHT  ,000,999,Night boat                    ")))
    (refused 9 TIMETBLS 1 2) ∷
    claim "a service's mode" (load (edit Timetbls (put 16 "&ICE ,001,003"))) (refused 9 TIMETBLS 2 5) ∷
    -- "compared over the whole field"
    claim "a mode elsewhere in the field" (load (edit Timetbls (put 16 "& IC ,001,003"))) (refused 9 TIMETBLS 2 5) ∷
    -- a wildcard is none but in XCHANGES
    claim "mode `*` in `&`" (load (edit Timetbls (put 16 "&*   ,001,003"))) (refused 9 TIMETBLS 2 5) ∷
    claim "an attribute's footnote" (load (edit Timetbls (put 6 "*FIET,001,002,00003"))) (refused 9 TIMETBLS 1 5) ∷
    claim "a platform's footnote" (load (edit Timetbls (put 8 "?1    ,     ,00000"))) (refused 9 TIMETBLS 1 7) ∷
    -- each stop record, and `;`
    claim "station of `>`" (load (edit Timetbls (put 7 ">DDD    ,0330"))) (refused 9 TIMETBLS 1 6) ∷
    claim "station of `;`" (load (edit Timetbls (put 9 ";DDD    "))) (refused 9 TIMETBLS 1 8) ∷
    claim "station of `+`" (load (edit Timetbls (put 10 "+DDD    ,2430,2510"))) (refused 9 TIMETBLS 1 9) ∷
    claim "station of `.`" (load (edit Timetbls (put 18 ".DDD    ,0200"))) (refused 9 TIMETBLS 2 7) ∷
    claim "station of `<`" (load (edit Timetbls (put 29 "<aaa    ,0400"))) (refused 9 TIMETBLS 3 10) ∷
    []

pub named_hold : Hold named
unfolding opened
named_hold = (refl, (refl, (refl, (refl, (refl, (refl, (refl, (refl, (refl, (refl, (refl, (refl, (refl, (refl, (refl, tt)))))))))))))))

-- "References": footnotes, CHANGES and XCHANGES
abbrev pub named_in_changes : List Claim
named_in_changes =
    -- "XCHANGES footnotes are in XFOOTNOTE, all others in FOOTNOTE."
    claim "a service's footnote in neither" (load (edit Timetbls (put 4 "-00003,000,999"))) (refused 9 TIMETBLS 1 3) ∷
    claim "a service's footnote in XFOOTNOTE alone" (load (at (Groups Xfootnote) (put 4 "#00003") (edit Timetbls (put 4 "-00003,000,999"))))
    (refused 9 TIMETBLS 1 3) ∷
    claim "a service's footnote in FOOTNOTE"
    (load (at (Groups Footnote) (insert 7 "0000000000") (at (Groups Footnote) (insert 6 "#00003") (edit Timetbls (put 4 "-00003,000,999")))))
    (accepted 10 3) ∷
    claim "an exception's footnote in FOOTNOTE alone"
    (load
    (at (Groups Footnote) (insert 7 "0000000000")
    (at (Groups Footnote) (insert 6 "#00003") (edit (Groups Xchanges) (put 6 "-200,IC  ,*  ,*   ,999,00003")))))
    (refused 9 XCHANGES 0 6) ∷
    claim "an exception's footnote in XFOOTNOTE" (load (edit (Groups Xchanges) (put 6 "-200,IC  ,*  ,*   ,999,00002"))) (accepted 10 3) ∷
    -- CHANGES
    claim "a station of CHANGES" (load (edit (Groups Changes) (put 2 "#DDD    "))) (refused 9 CHANGES 0 2) ∷
    claim "a pair's first service" (load (edit (Groups Changes) (put 3 "-00000006,00000008,01"))) (refused 9 CHANGES 0 3) ∷
    claim "a pair's second service" (load (edit (Groups Changes) (put 7 "-00000009,00000010,02"))) (refused 9 CHANGES 0 7) ∷
    -- XCHANGES
    claim "a station of XCHANGES" (load (edit (Groups Xchanges) (put 2 "#DDD    "))) (refused 9 XCHANGES 0 2) ∷
    claim "from company" (load (edit (Groups Xchanges) (put 3 "-300,*   ,*  ,*   ,020,00001"))) (refused 9 XCHANGES 0 3) ∷
    claim "from company 000" (load (edit (Groups Xchanges) (put 3 "-000,*   ,*  ,*   ,020,00001"))) (refused 9 XCHANGES 0 3) ∷
    claim "from mode" (load (edit (Groups Xchanges) (put 4 "-*  ,BUS ,100,BOAT,030,00001"))) (refused 9 XCHANGES 0 4) ∷
    claim "to company" (load (edit (Groups Xchanges) (put 4 "-*  ,BOAT,300,BOAT,030,00001"))) (refused 9 XCHANGES 0 4) ∷
    claim "to mode" (load (edit (Groups Xchanges) (put 4 "-*  ,BOAT,100,BUS ,030,00001"))) (refused 9 XCHANGES 0 4) ∷
    -- "An XCHANGES wildcard needs no row in COMPANY or TRNSMODE."
    claim "four wildcards" (load (edit (Groups Xchanges) (put 4 "-*  ,*   ,*  ,*   ,030,00001"))) (accepted 10 3) ∷
    []

pub named_in_changes_hold : Hold named_in_changes
unfolding opened
named_in_changes_hold = (refl, (refl, (refl, (refl, (refl, (refl, (refl, (refl, (refl, (refl, (refl, (refl, (refl, (refl, (refl, tt)))))))))))))))

-- "References": DELIVERY's company
abbrev pub named_in_delivery : List Claim
named_in_delivery =
    -- "DELIVERY's company is looked up after COMPANY's last line and reported at DELIVERY."
    claim "DELIVERY's company" (load (headed "@300,01011615,10011615,0001,Cases                         " small)) (refused 9 DELIVERY 0 1) ∷
    -- and company 000 is in no COMPANY
    claim "DELIVERY's company 000" (load (headed "@000,01011615,10011615,0001,Cases                         " small)) (refused 9 DELIVERY 0 1) ∷
    claim "COMPANY's last line first"
    (load
    (at (Rows Company) (put 3 "200,NIGHT     ,Night Trains                  ,2400")
    (headed "@300,01011615,10011615,0001,Cases                         " small)))
    (refused 5 COMPANY 0 3) ∷
    claim "and COUNTRY after it"
    (load
    (at (Rows Country) (put 2 "NL  ,2,Netherlands                   ") (headed "@300,01011615,10011615,0001,Cases                         " small)))
    (refused 9 DELIVERY 0 1) ∷
    claim "a company that comes last in COMPANY" (load (headed "@200,01011615,10011615,0001,Cases                         " small)) (accepted 10 3) ∷
    []

pub named_in_delivery_hold : Hold named_in_delivery
unfolding opened
named_in_delivery_hold = (refl, (refl, (refl, (refl, (refl, tt)))))
