-- "Order": which record may stand where, and groups that are unfinished.
use Prim.{tt}
use Rattle.std.specs.Prelude.{ℕ, zero, suc, refl, List, [], ◌∷◌, map, Bool, true, false}
use Rattle.iff.specs.Bytes.{hash, plus, dash, at as at_sign}
use Rattle.iff.specs.Lists.{kept}
use Rattle.iff.specs.Tables.{letterless}
use Rattle.iff.specs.declared.RowFile.TheVariants.{Company, Country, Trnsmode, Stations}
use Rattle.iff.specs.declared.GroupFile.TheVariants.{Timezone, Footnote, Changes, Xfootnote, Xchanges}
use Rattle.iff.specs.declared.GroupFile.{GroupFile}
use Rattle.iff.specs.declared.File.TheVariants.{Delivery, Rows, Groups, Timetbls}
use Rattle.iff.specs.declared.GroupStand.{GroupStand}
use Rattle.iff.specs.declared.GroupStand.TheVariants.{Opening, Opened, Going}
use Rattle.iff_rules.specs.Order.{known_in_group, known_in_block, group_tag, may_follow, group_moves, group_stand, may_end}
use Rattle.small_delivery.specs.Claims.{Claim, claim, Hold}
use Rattle.small_delivery.specs.Opened.{opened}
use Rattle.small_delivery.specs.Delivery.{put, insert, omit, instead, at, edit, header}
use Rattle.small_delivery.specs.Shown.{accepted, refused, DELIVERY, COMPANY, TIMEZONE, STATIONS, FOOTNOTE, TIMETBLS, CHANGES, XFOOTNOTE, XCHANGES}
use Rattle.small_delivery.specs.Shown.{load}

-- "Order": groups
abbrev pub groups : List Claim
groups =
    -- "TIMEZONE: `#`, one or more periods."
    claim "a period before the first `#`" (load (edit (Groups Timezone) (omit 2 1))) (refused 7 TIMEZONE 0 2) ∷
    -- "A group is unfinished if a line beginning `#` or the file's end comes too soon: 7 at the group's last line"
    claim "a zone without periods" (load (edit (Groups Timezone) (omit 3 2))) (refused 7 TIMEZONE 0 2) ∷
    claim "a last zone without periods" (load (edit (Groups Timezone) (omit 6 1))) (refused 7 TIMEZONE 0 5) ∷
    claim "three periods" (load (edit (Groups Timezone) (insert 5 "-03,01011616,05011616"))) (accepted 10 3) ∷
    claim "a `-` and a `+` in one zone" (load (edit (Groups Timezone) (put 3 "-01,01011615,05011615"))) (accepted 10 3) ∷
    -- `@` is a known first byte, and no record of a group
    claim "a first line again" (load (edit (Groups Timezone) (insert 4 header))) (refused 7 TIMEZONE 0 4) ∷
    -- "Vectors: `#`, one vector."
    claim "a vector before the first `#`" (load (edit (Groups Footnote) (omit 2 1))) (refused 7 FOOTNOTE 0 2) ∷
    claim "a footnote without a vector" (load (edit (Groups Footnote) (omit 3 1))) (refused 7 FOOTNOTE 0 2) ∷
    claim "a last footnote without a vector" (load (edit (Groups Footnote) (omit 5 1))) (refused 7 FOOTNOTE 0 4) ∷
    claim "a second vector" (load (edit (Groups Footnote) (insert 4 "1111111111"))) (refused 7 FOOTNOTE 0 4) ∷
    claim "a second vector in XFOOTNOTE" (load (edit (Groups Xfootnote) (insert 6 "1111111111"))) (refused 7 XFOOTNOTE 0 6) ∷
    claim "`@` where a vector is due" (load (edit (Groups Xfootnote) (put 3 header))) (refused 7 XFOOTNOTE 0 3) ∷
    claim "the last vector of XFOOTNOTE left out" (load (edit (Groups Xfootnote) (omit 5 1))) (refused 7 XFOOTNOTE 0 4) ∷
    -- "CHANGES and XCHANGES: `#`, rows, perhaps none."
    claim "a row before the first `#`" (load (edit (Groups Changes) (omit 2 1))) (refused 7 CHANGES 0 2) ∷
    claim "no rows" (load (edit (Groups Changes) (omit 3 2))) (accepted 10 3) ∷
    claim "a row of XCHANGES before the first `#`" (load (edit (Groups Xchanges) (omit 2 1))) (refused 7 XCHANGES 0 2) ∷
    claim "no rows in XCHANGES" (load (edit (Groups Xchanges) (omit 3 4))) (accepted 10 3) ∷
    claim "a first line again in XCHANGES" (load (edit (Groups Xchanges) (insert 4 header))) (refused 7 XCHANGES 0 4) ∷
    []

pub groups_hold : Hold groups
unfolding opened
groups_hold =
    (refl, (refl, (refl, (refl, (refl, (refl, (refl, (refl, (refl, (refl, (refl, (refl, (refl, (refl, (refl, (refl, (refl, (refl, tt))))))))))))))))))

-- where a group stands
abbrev pub stands : List Claim
stands =
    claim "before its `#`" (group_stand []) Opening ∷
    claim "after its `#`" (group_stand ((35 ∷ 0 ∷ []) ∷ [])) Opened ∷
    claim "after a line more" (group_stand ((35 ∷ 0 ∷ []) ∷ (43 ∷ 1 ∷ []) ∷ [])) Going ∷
    claim "after two lines more" (group_stand ((35 ∷ 0 ∷ []) ∷ (43 ∷ 1 ∷ []) ∷ (45 ∷ 2 ∷ []) ∷ [])) Going ∷
    claim "the next stands" (map group_moves (Opening ∷ Opened ∷ Going ∷ [])) (Opened ∷ Going ∷ Going ∷ []) ∷
    []

pub stands_hold : Hold stands
unfolding opened
stands_hold = (refl, (refl, (refl, (refl, (refl, tt)))))

-- which of these may come where a group stands: `#`, `+`, `-`, a vector, `@`
abbrev following : GroupFile → GroupStand → List Bool
following f s = map (may_follow f s) (hash ∷ plus ∷ dash ∷ letterless ∷ at_sign ∷ [])

-- before its `#`, right after it, and after a line more
abbrev followings : GroupFile → List (List Bool)
followings f = following f Opening ∷ following f Opened ∷ following f Going ∷ []

abbrev hash_alone : List Bool
hash_alone = true ∷ false ∷ false ∷ false ∷ false ∷ []

abbrev periods : List Bool
periods = false ∷ true ∷ true ∷ false ∷ false ∷ []

abbrev pairs : List Bool
pairs = false ∷ false ∷ true ∷ false ∷ false ∷ []

abbrev vector : List Bool
vector = false ∷ false ∷ false ∷ true ∷ false ∷ []

abbrev nothing : List Bool
nothing = false ∷ false ∷ false ∷ false ∷ false ∷ []

abbrev pub follows : List Claim
follows =
    -- "TIMEZONE: `#`, one or more periods."
    claim "TIMEZONE" (followings Timezone) (hash_alone ∷ periods ∷ periods ∷ []) ∷
    -- "Vectors: `#`, one vector."
    claim "FOOTNOTE" (followings Footnote) (hash_alone ∷ vector ∷ nothing ∷ []) ∷
    claim "XFOOTNOTE" (followings Xfootnote) (hash_alone ∷ vector ∷ nothing ∷ []) ∷
    -- "CHANGES and XCHANGES: `#`, rows, perhaps none."
    claim "CHANGES" (followings Changes) (hash_alone ∷ pairs ∷ pairs ∷ []) ∷
    claim "XCHANGES" (followings Xchanges) (hash_alone ∷ pairs ∷ pairs ∷ []) ∷
    []

pub follows_hold : Hold follows
unfolding opened
follows_hold = (refl, (refl, (refl, (refl, (refl, tt)))))

-- whether a group may end: before its `#`, right after it, and after a line more
abbrev endings : GroupFile → List Bool
endings f = map (may_end f) (Opening ∷ Opened ∷ Going ∷ [])

abbrev pub ends : List Claim
ends =
    claim "TIMEZONE" (endings Timezone) (true ∷ false ∷ true ∷ []) ∷
    claim "FOOTNOTE" (endings Footnote) (true ∷ false ∷ true ∷ []) ∷
    claim "XFOOTNOTE" (endings Xfootnote) (true ∷ false ∷ true ∷ []) ∷
    claim "CHANGES" (endings Changes) (true ∷ true ∷ true ∷ []) ∷
    claim "XCHANGES" (endings Xchanges) (true ∷ true ∷ true ∷ []) ∷
    []

pub ends_hold : Hold ends
unfolding opened
ends_hold = (refl, (refl, (refl, (refl, (refl, tt)))))

-- n numbers from k on
abbrev numbers : ℕ → ℕ → List ℕ
numbers zero k = []
numbers (suc n) k = k ∷ numbers n (suc k)

-- all bytes that pass a test
abbrev bytes_with : (ℕ → Bool) → List ℕ
bytes_with p = kept p (numbers 256 0)

-- "Known first bytes are `@` and the file's own letters."
abbrev pub letters : List Claim
letters =
    -- `#` 35, `+` 43, `-` 45, `0` 48, `1` 49, `@` 64
    claim "TIMEZONE" (bytes_with (known_in_group Timezone)) (35 ∷ 43 ∷ 45 ∷ 64 ∷ []) ∷
    claim "FOOTNOTE" (bytes_with (known_in_group Footnote)) (35 ∷ 48 ∷ 49 ∷ 64 ∷ []) ∷
    claim "XFOOTNOTE" (bytes_with (known_in_group Xfootnote)) (35 ∷ 48 ∷ 49 ∷ 64 ∷ []) ∷
    claim "CHANGES" (bytes_with (known_in_group Changes)) (35 ∷ 45 ∷ 64 ∷ []) ∷
    claim "XCHANGES" (bytes_with (known_in_group Xchanges)) (35 ∷ 45 ∷ 64 ∷ []) ∷
    -- `%` 37, `&` 38, `*` 42, `.` 46, `;` 59, `<` 60, `>` 62, `?` 63
    claim "TIMETBLS" (bytes_with known_in_block) (35 ∷ 37 ∷ 38 ∷ 42 ∷ 43 ∷ 45 ∷ 46 ∷ 59 ∷ 60 ∷ 62 ∷ 63 ∷ 64 ∷ []) ∷
    -- a vector has no letter, and its tag is 1
    claim "tags of a zone's lines" (map (group_tag Timezone) (35 ∷ 43 ∷ 45 ∷ 64 ∷ [])) (35 ∷ 43 ∷ 45 ∷ 64 ∷ []) ∷
    claim "tags of a footnote's lines" (map (group_tag Footnote) (35 ∷ 48 ∷ 49 ∷ 64 ∷ [])) (35 ∷ 1 ∷ 1 ∷ 64 ∷ []) ∷
    []

pub letters_hold : Hold letters
unfolding opened
letters_hold = (refl, (refl, (refl, (refl, (refl, (refl, (refl, (refl, tt))))))))

-- "Order": first lines
abbrev pub first_lines : List Claim
first_lines =
    -- "A first line not starting `@` .. is 7 at once"
    claim "no first line" (load (edit (Rows Company) (omit 1 1))) (refused 7 COMPANY 0 1) ∷
    claim "an empty first line" (load (edit (Rows Stations) (put 1 ""))) (refused 7 STATIONS 0 1) ∷
    claim "a first line beginning `#`" (load (edit (Groups Timezone) (omit 1 1))) (refused 7 TIMEZONE 0 1) ∷
    claim "DELIVERY's own" (load (edit Delivery (put 1 "*100,01011615,10011615,0001,Cases                         "))) (refused 7 DELIVERY 0 1) ∷
    -- "and a second line in DELIVERY, is 7 at once"
    claim "a second line in DELIVERY" (load (edit Delivery (insert 2 header))) (refused 7 DELIVERY 0 2) ∷
    claim "an empty second line in DELIVERY" (load (edit Delivery (insert 2 ""))) (refused 7 DELIVERY 0 2) ∷
    -- after the first line's own tests
    claim "a first line that is wrong, and a second"
    (load (at Delivery (insert 2 header) (edit Delivery (put 1 "@100,01011615,32011615,0001,Cases                         "))))
    (refused 5 DELIVERY 0 1) ∷
    -- "In a file without record letters every later line is a row."
    claim "a country's code beginning `@`" (load (edit (Rows Country) (insert 3 "@X  ,0,Elsewhere                     "))) (accepted 10 3) ∷
    claim "a mode's code beginning `#`" (load (edit (Rows Trnsmode) (insert 4 "#1  ,Hash                          "))) (accepted 10 3) ∷
    []

pub first_lines_hold : Hold first_lines
unfolding opened
first_lines_hold = (refl, (refl, (refl, (refl, (refl, (refl, (refl, (refl, (refl, tt)))))))))

-- "Order": blocks
abbrev pub blocks : List Claim
blocks =
    -- "TIMETBLS block: `#`; one or more `%`; one or more `-`; one or more `&`; any `*`; `>`; any of `.` `+` `;`; `<`."
    claim "no `%`" (load (edit Timetbls (omit 3 1))) (refused 7 TIMETBLS 1 2) ∷
    claim "no `-`" (load (edit Timetbls (omit 4 1))) (refused 7 TIMETBLS 1 3) ∷
    claim "no `&`" (load (edit Timetbls (omit 5 1))) (refused 7 TIMETBLS 1 4) ∷
    claim "no `*`" (load (edit Timetbls (omit 6 1))) (accepted 10 3) ∷
    claim "two `*`" (load (edit Timetbls (insert 6 "*BAR ,001,003,00002"))) (accepted 10 3) ∷
    claim "no `>`" (load (edit Timetbls (omit 17 1))) (refused 7 TIMETBLS 2 6) ∷
    claim "two `>`" (load (edit Timetbls (insert 18 ">BBB    ,0100"))) (refused 7 TIMETBLS 2 7) ∷
    claim "`%` after `-`" (load (edit Timetbls (insert 5 "%100,00012,NACHT  ,000,999,Night boat                    "))) (refused 7 TIMETBLS 1 4) ∷
    claim "`-` after `&`" (load (edit Timetbls (insert 6 "-00001,000,999"))) (refused 7 TIMETBLS 1 5) ∷
    claim "`&` after `*`" (load (edit Timetbls (insert 7 "&BOAT,000,999"))) (refused 7 TIMETBLS 1 6) ∷
    claim "`*` after `>`" (load (edit Timetbls (insert 9 "*BAR ,001,003,00002"))) (refused 7 TIMETBLS 1 8) ∷
    claim "`;` after `*`" (load (edit Timetbls (insert 7 ";BBB    "))) (refused 7 TIMETBLS 1 6) ∷
    claim "`<` right after `>`" (load (edit Timetbls (omit 8 3))) (accepted 10 3) ∷
    claim "`;` right before `<`" (load (edit Timetbls (insert 11 ";BBB    "))) (accepted 10 3) ∷
    []

pub blocks_hold : Hold blocks
unfolding opened
blocks_hold = (refl, (refl, (refl, (refl, (refl, (refl, (refl, (refl, (refl, (refl, (refl, (refl, (refl, (refl, tt))))))))))))))

-- "Order": lines outside a block
abbrev pub strays : List Claim
strays =
    -- a line after the last
    claim "`.` after `<`" (load (edit Timetbls (insert 20 ".BBB    ,0400"))) (refused 7 TIMETBLS 2 9) ∷
    claim "`;` after `<` and `?`" (load (edit Timetbls (insert 31 ";BBB    "))) (refused 7 TIMETBLS 3 12) ∷
    claim "a second `<`" (load (edit Timetbls (insert 20 "<BBB    ,0400"))) (refused 7 TIMETBLS 2 9) ∷
    -- a line before the first block is block 0, line 2 and on
    claim "`%` before the first `#`" (load (edit Timetbls (insert 2 "%100,00012,NACHT  ,000,999,                              ")))
    (refused 7 TIMETBLS 0 2) ∷
    -- a first line again
    claim "`@` in a block" (load (edit Timetbls (insert 4 header))) (refused 7 TIMETBLS 1 3) ∷
    []

pub strays_hold : Hold strays
unfolding opened
strays_hold = (refl, (refl, (refl, (refl, (refl, tt)))))

-- "Order": platforms, and blocks unfinished
abbrev pub platforms : List Claim
platforms =
    -- "A stop record `>` `.` `+` `<` may be followed by one platform record, after which the stops go on (desk)."
    claim "`?` after `.`" (load (edit Timetbls (insert 19 "?1    ,2    ,00001"))) (accepted 10 3) ∷
    claim "`?` after `+`" (load (edit Timetbls (insert 11 "?1    ,2    ,00001"))) (accepted 10 3) ∷
    claim "`?` after `<`" (load (edit Timetbls (insert 12 "?1    ,2    ,00001"))) (accepted 10 3) ∷
    claim "a second `?`" (load (edit Timetbls (insert 9 "?1    ,2    ,00001"))) (refused 7 TIMETBLS 1 8) ∷
    claim "a second `?` after `<`" (load (edit Timetbls (insert 31 "?1    ,2    ,00001"))) (refused 7 TIMETBLS 3 12) ∷
    claim "`?` after `;`" (load (edit Timetbls (insert 10 "?1    ,2    ,00001"))) (refused 7 TIMETBLS 1 9) ∷
    claim "`?` before `>`" (load (edit Timetbls (insert 7 "?1    ,2    ,00001"))) (refused 7 TIMETBLS 1 6) ∷
    -- a block unfinished
    claim "no `<`" (load (edit Timetbls (omit 11 1))) (refused 7 TIMETBLS 1 9) ∷
    claim "no `<` at the file's end" (load (edit Timetbls (omit 29 2))) (refused 7 TIMETBLS 3 9) ∷
    claim "`#` alone" (load (edit Timetbls (insert 12 "#00000006"))) (refused 7 TIMETBLS 2 1) ∷
    claim "`#` alone at the file's end" (load (edit Timetbls (insert 31 "#00000006"))) (refused 7 TIMETBLS 4 1) ∷
    claim "a block that ends after `&`" (load (edit Timetbls (omit 17 3))) (refused 7 TIMETBLS 2 5) ∷
    -- "A file with only its first line is present."
    claim "no services, and none named" (load (at (Groups Changes) (instead []) (edit Timetbls (omit 2 29)))) (accepted 10 0) ∷
    []

pub platforms_hold : Hold platforms
unfolding opened
platforms_hold = (refl, (refl, (refl, (refl, (refl, (refl, (refl, (refl, (refl, (refl, (refl, (refl, (refl, tt)))))))))))))
