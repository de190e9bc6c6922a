-- "Soundness", rule by rule: tables that one rule alone refuses, and beside some of them tables that it just lets pass. What is derived from the
-- damaged words (line numbers, counts, whether keys rise) is put right, so that no other rule sees the damage.
use Prim.{tt}
use Rattle.std.specs.Prelude.{ℕ, zero, suc, ◌+◌, ◌*◌, ◌/◌, ◌%◌, refl, List, [], ◌∷◌, ◌++◌, true, false, take, drop, replicate}
use Rattle.iff.specs.Files.{PerFile}
use Rattle.iff.specs.declared.RowFile.TheVariants.{Company, Country, Trnsmode, Stations}
use Rattle.iff.specs.declared.GroupFile.TheVariants.{Timezone, Footnote, Changes, Xfootnote, Xchanges}
use Rattle.iff.specs.declared.File.TheVariants.{Rows, Groups, Timetbls}
use Rattle.iff_desk.specs.Sound.{sound}
use Rattle.small_delivery.specs.Claims.{Claim, claim, Hold}
use Rattle.small_delivery.specs.Opened.{opened}
use Rattle.small_delivery.specs.Delivery.{at}
use Rattle.small_delivery.specs.Stored.{stored, reword, reword_firsts, insert_rows, keeping, rows9, AAA, CCC}

-- CODES that the tables do not name
abbrev DDD : ℕ
DDD = 0x44444420202020

abbrev TRAM : ℕ
TRAM = 0x5452414D

abbrev BE : ℕ
BE = 0x42452020

abbrev NL : ℕ
NL = 0x4E4C2020

-- no day is marked in any vector
abbrev markless : PerFile (List ℕ)
markless =
    reword (Groups Footnote) 2 1 0
    (reword (Groups Footnote) 4 1 0
    (reword (Groups Xfootnote) 2 1 0
    (reword (Groups Xfootnote) 4 1 0 stored)))

-- a period's words
abbrev period : List ℕ
period = 43 ∷ 1 ∷ 1011615 ∷ 5011615 ∷ 0 ∷ 0 ∷ []

-- every station in zone 0
abbrev one_zone : PerFile (List ℕ)
one_zone = reword (Rows Stations) 2 5 0 stored

-- the second service's block with its `%` behind its first `-`, each with the number of its new place
abbrev exchanged : PerFile (List ℕ)
exchanged =
    at Timetbls
    (λ t.
    take 84 t
    ++ (45 ∷ 2 ∷ 1 ∷ 2 ∷ 0 ∷ 0 ∷ 2
    ∷ 37 ∷ 200 ∷ 13 ∷ 1 ∷ 3 ∷ 0 ∷ 3
    ∷ drop 98 t))
    stored

-- A FIRST LINE'S ROW
abbrev pub firsts : List Claim
firsts =
    -- its tag
    claim "`A` for `@` in every table" (sound (reword_firsts 0 65 stored)) false ∷
    -- "version 24-27": four digits
    claim "version 9999" (sound (reword_firsts 4 9999 stored)) true ∷
    claim "version 10000" (sound (reword_firsts 4 10000 stored)) false ∷
    -- "A delivery spans at most 800 days."
    claim "800 days" (sound (reword_firsts 3 10031617 stored)) true ∷
    claim "801 days" (sound (reword_firsts 3 11031617 stored)) false ∷
    -- "first not after last", in tables without a mark, since such a span has no days
    claim "no marks" (sound markless) true ∷
    claim "the last day before the first" (sound (reword_firsts 3 31121614 markless)) false ∷
    -- each file has DELIVERY's
    claim "COUNTRY's last day" (sound (reword (Rows Country) 0 3 9011615 stored)) false ∷
    -- TIMETBLS' is block 0, line 1
    claim "line 2" (sound (reword Timetbls 0 6 2 stored)) false ∷
    -- words behind these
    claim "FOOTNOTE's, the last word" (sound (reword (Groups Footnote) 0 13 1 stored)) false ∷
    claim "XCHANGES', the last word" (sound (reword (Groups Xchanges) 0 6 1 stored)) false ∷
    -- "Companies .. named anywhere must be in their own file": DELIVERY's
    claim "company 200 in every table" (sound (reword_firsts 1 200 stored)) true ∷
    claim "company 300 in every table" (sound (reword_firsts 1 300 stored)) false ∷
    []

pub firsts_hold : Hold firsts
unfolding opened
firsts_hold = (refl, (refl, (refl, (refl, (refl, (refl, (refl, (refl, (refl, (refl, (refl, (refl, (refl, tt)))))))))))))

-- ROWS OF A FILE WITHOUT RECORD LETTERS
abbrev pub plain_rows : List Claim
plain_rows =
    -- their tag
    claim "a third company" (sound (insert_rows (Rows Company) 3 (1 ∷ 300 ∷ 0 ∷ 0 ∷ 0 ∷ 0 ∷ []) stored)) true ∷
    claim "a third company with tag 2" (sound (insert_rows (Rows Company) 3 (2 ∷ 300 ∷ 0 ∷ 0 ∷ 0 ∷ 0 ∷ []) stored)) false ∷
    -- "change time 11-12": two digits, and stored has 99
    claim "a change time of 100" (sound (reword (Rows Stations) 1 3 100 stored)) false ∷
    -- "short name 3-9": seven bytes
    claim "a short name of eight bytes" (sound (insert_rows (Rows Stations) 4 (1 ∷ 1 ∷ 0x4444442020202020 ∷ 5 ∷ NL ∷ 0 ∷ []) stored)) false ∷
    -- words behind the fields
    claim "the word behind a mode" (sound (reword (Rows Trnsmode) 2 2 1 stored)) false ∷
    -- "Day turn is below 2400 with minutes below 60."
    claim "day turn 2359" (sound (reword (Rows Company) 1 2 2359 stored)) true ∷
    claim "day turn 2400" (sound (reword (Rows Company) 1 2 2400 stored)) false ∷
    -- "Company number is 1 or more."
    claim "company 1" (sound (insert_rows (Rows Company) 1 (1 ∷ 1 ∷ 0 ∷ 0 ∷ 0 ∷ 0 ∷ []) stored)) true ∷
    claim "company 0" (sound (insert_rows (Rows Company) 1 (1 ∷ 0 ∷ 0 ∷ 0 ∷ 0 ∷ 0 ∷ []) stored)) false ∷
    -- "Inland is 0 or 1."
    claim "inland 2" (sound (reword (Rows Country) 1 2 2 stored)) false ∷
    -- "References"
    claim "a station's country" (sound (reword (Rows Stations) 1 4 BE stored)) false ∷
    -- "Unique": with a key twice the keys do not rise
    claim "a company twice" (sound (reword (Rows Company) 0 5 0 (insert_rows (Rows Company) 3 (1 ∷ 200 ∷ 0 ∷ 0 ∷ 0 ∷ 0 ∷ []) stored))) false ∷
    []

pub plain_rows_hold : Hold plain_rows
unfolding opened
plain_rows_hold = (refl, (refl, (refl, (refl, (refl, (refl, (refl, (refl, (refl, (refl, (refl, (refl, tt))))))))))))

-- GROUPS
abbrev pub group_rows : List Claim
group_rows =
    -- "TIMEZONE: `#`, one or more periods."
    claim "a zone without a period" (sound (insert_rows (Groups Timezone) 6 (35 ∷ 2 ∷ 0 ∷ 0 ∷ 0 ∷ 0 ∷ []) stored)) false ∷
    claim "a period with tag 44" (sound (reword (Groups Timezone) 2 0 44 stored)) false ∷
    -- "Vectors: `#`, one vector."
    claim "two vectors" (sound (insert_rows (Groups Footnote) 5 (1 ∷ replicate 13 0) stored)) false ∷
    claim "a footnote without a vector" (sound (insert_rows (Groups Footnote) 5 (35 ∷ 3 ∷ replicate 12 0) stored)) false ∷
    -- "CHANGES and XCHANGES: `#`, rows": none before the first `#`
    claim "a pair before the first `#`" (sound (insert_rows (Groups Changes) 1 (45 ∷ 7 ∷ 8 ∷ 1 ∷ 0 ∷ 0 ∷ []) stored)) false ∷
    claim "the same pair behind it" (sound (insert_rows (Groups Changes) 8 (45 ∷ 7 ∷ 8 ∷ 1 ∷ 0 ∷ 0 ∷ []) stored)) true ∷
    -- "hours 2-3": two digits
    claim "100 hours" (sound (reword (Groups Timezone) 2 1 100 stored)) false ∷
    -- words behind the fields
    claim "the word behind a zone" (sound (reword (Groups Timezone) 1 2 1 stored)) false ∷
    -- "first not after last"
    claim "a period from its last day" (sound (reword (Groups Timezone) 2 2 5011615 stored)) true ∷
    claim "a period from the day after" (sound (reword (Groups Timezone) 2 2 6011615 (keeping 3 (Groups Timezone) one_zone))) false ∷
    -- "the four keys with footnote under one XCHANGES station"
    claim "an exception again" (sound (reword (Groups Xchanges) 4 6 1 stored)) false ∷
    -- "References"
    claim "a pair's station" (sound (reword (Groups Changes) 4 1 DDD stored)) false ∷
    claim "a pair's from service" (sound (reword (Groups Changes) 2 1 6 stored)) false ∷
    claim "a pair's to service" (sound (reword (Groups Changes) 2 2 6 stored)) false ∷
    -- "Unique": with a key twice the keys do not rise
    claim "a zone twice" (sound (reword (Groups Timezone) 0 5 0 (insert_rows (Groups Timezone) 6 (35 ∷ 1 ∷ 0 ∷ 0 ∷ 0 ∷ 0 ∷ period) stored))) false ∷
    []

pub group_rows_hold : Hold group_rows
unfolding opened
group_rows_hold = (refl, (refl, (refl, (refl, (refl, (refl, (refl, (refl, (refl, (refl, (refl, (refl, (refl, (refl, (refl, tt)))))))))))))))

-- XCHANGES: an exception's four keys
abbrev pub exceptions : List Claim
exceptions =
    claim "its station" (sound (reword (Groups Xchanges) 6 1 DDD stored)) false ∷
    claim "its from company" (sound (reword (Groups Xchanges) 2 1 300 stored)) false ∷
    claim "its from mode" (sound (reword (Groups Xchanges) 3 2 TRAM stored)) false ∷
    claim "its to company" (sound (reword (Groups Xchanges) 3 3 300 stored)) false ∷
    claim "its to mode" (sound (reword (Groups Xchanges) 3 4 TRAM stored)) false ∷
    -- "XFOOTNOTE only if XCHANGES is too"
    claim "XCHANGES' first line alone, and no XFOOTNOTE" (sound (keeping 0 (Groups Xfootnote) (keeping 1 (Groups Xchanges) stored))) false ∷
    claim "XCHANGES' first line alone, and XFOOTNOTE" (sound (keeping 1 (Groups Xchanges) stored)) true ∷
    []

pub exceptions_hold : Hold exceptions
unfolding opened
exceptions_hold = (refl, (refl, (refl, (refl, (refl, (refl, (refl, tt)))))))

-- BLOCKS, which stand in rows 1 to 10, 11 to 18 and 19 to 29
abbrev pub block_rows : List Claim
block_rows =
    -- "Order"
    claim "`-` before `%`" (sound exchanged) false ∷
    claim "`.` for the last `<`" (sound (reword Timetbls 18 0 46 stored)) false ∷
    claim "a stop before the first `#`" (sound (insert_rows Timetbls 1 (46 ∷ AAA ∷ 330 ∷ 0 ∷ 0 ∷ 0 ∷ 1 ∷ []) stored)) false ∷
    -- "number 6-10": five digits
    claim "train number 100000" (sound (reword Timetbls 2 2 100000 stored)) false ∷
    -- words behind the fields
    claim "the word behind a block's counts" (sound (reword Timetbls 1 4 1 stored)) false ∷
    claim "the word behind a stop's time" (sound (reword Timetbls 6 3 1 stored)) false ∷
    -- "minutes 00 to 59"
    claim "0260" (sound (reword Timetbls 17 2 260 stored)) false ∷
    -- "Legs"
    claim "`-` lacks leg 2" (sound (reword Timetbls 3 3 2 stored)) false ∷
    claim "`&` from stop 2" (sound (reword Timetbls 4 2 2 stored)) false ∷
    claim "`*` to stop 4 of three" (sound (reword Timetbls 5 3 4 stored)) false ∷
    -- "Unique": with a key twice the keys do not rise
    claim "a service twice" (sound (reword Timetbls 0 5 0 (insert_rows Timetbls 30 rows9 stored))) false ∷
    []

pub block_rows_hold : Hold block_rows
unfolding opened
block_rows_hold = (refl, (refl, (refl, (refl, (refl, (refl, (refl, (refl, (refl, (refl, (refl, tt)))))))))))

-- what a block's records name
abbrev pub named : List Claim
named =
    claim "company of `%`" (sound (reword Timetbls 2 1 300 stored)) false ∷
    claim "footnote of `-`" (sound (reword Timetbls 3 1 3 stored)) false ∷
    claim "mode of `&`" (sound (reword Timetbls 4 1 TRAM stored)) false ∷
    claim "footnote of `*`" (sound (reword Timetbls 5 4 3 stored)) false ∷
    claim "station of `>`" (sound (reword Timetbls 6 1 DDD stored)) false ∷
    claim "footnote of `?`" (sound (reword Timetbls 7 1 3 stored)) false ∷
    claim "station of `;`" (sound (reword Timetbls 8 1 DDD stored)) false ∷
    claim "station of `+`" (sound (reword Timetbls 9 1 DDD stored)) false ∷
    []

pub named_hold : Hold named
unfolding opened
named_hold = (refl, (refl, (refl, (refl, (refl, (refl, (refl, (refl, tt))))))))

-- LIMITS
-- n modes more, with `M` and two digits as their codes, from number k on
abbrev mode_rows : ℕ → ℕ → List ℕ
mode_rows zero k = []
mode_rows (suc n) k = 1 ∷ (0x4D000020 + (48 + k / 10) * 65536 + (48 + k % 10) * 256) ∷ 0 ∷ 0 ∷ 0 ∷ 0 ∷ mode_rows n (suc k)

abbrev with_modes : ℕ → PerFile (List ℕ)
with_modes n = insert_rows (Rows Trnsmode) 1 (mode_rows n 0) stored

-- n stops between a service's first and its last, in lines 6 and on of its block
abbrev stop_rows : ℕ → ℕ → List ℕ
stop_rows zero line = []
stop_rows (suc n) line = 46 ∷ CCC ∷ 900 ∷ 0 ∷ 0 ∷ 0 ∷ line ∷ stop_rows n (suc line)

abbrev long_service : ℕ → List ℕ
long_service n =
    let stops = n + 2 in
    let lines = n + 6 in
    35 ∷ 7 ∷ lines ∷ stops ∷ 0 ∷ 0 ∷ 1
    ∷ 37 ∷ 100 ∷ 12 ∷ 1 ∷ stops ∷ 0 ∷ 2
    ∷ 45 ∷ 1 ∷ 1 ∷ stops ∷ 0 ∷ 0 ∷ 3
    ∷ 38 ∷ 0x49432020 ∷ 1 ∷ stops ∷ 0 ∷ 0 ∷ 4
    ∷ 62 ∷ AAA ∷ 330 ∷ 0 ∷ 0 ∷ 0 ∷ 5
    ∷ (stop_rows n 6
    ++ (60 ∷ AAA ∷ 2600 ∷ 0 ∷ 0 ∷ 0 ∷ lines
    ∷ []))

-- that service alone, and no CHANGES
abbrev with_stops : ℕ → PerFile (List ℕ)
with_stops n = keeping 0 (Groups Changes) (insert_rows Timetbls 1 (long_service n) (keeping 1 Timetbls stored))

abbrev pub limits : List Claim
limits =
    -- "At most 64 modes": IC, BOAT and 62 more
    claim "64 modes" (sound (with_modes 62)) true ∷
    claim "65 modes" (sound (with_modes 63)) false ∷
    -- "at most 998 stops in a service": `>`, 996 more, `<`
    claim "998 stops" (sound (with_stops 996)) true ∷
    claim "999 stops" (sound (with_stops 997)) false ∷
    []

pub limits_hold : Hold limits
unfolding opened
limits_hold = (refl, (refl, (refl, (refl, tt))))
