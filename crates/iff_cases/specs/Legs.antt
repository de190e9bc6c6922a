-- "Legs": test 10 on both sides.
use Prim.{tt}
use Rattle.std.specs.Prelude.{refl, List, [], ◌∷◌}
use Rattle.iff.specs.declared.File.TheVariants.{Timetbls}
use Rattle.small_delivery.specs.Claims.{Claim, claim, Hold}
use Rattle.small_delivery.specs.Opened.{opened}
use Rattle.small_delivery.specs.Delivery.{put, insert, at, edit}
use Rattle.small_delivery.specs.Shown.{accepted, refused, TIMETBLS, load}

-- "Legs"
abbrev pub ranges : List Claim
ranges =
    -- "For `%`, `-` and `&`: 1 ≤ first < last ≤ n" (n is 3: `;` has no number)
    claim "`%` up to stop 4 of 3" (load (edit Timetbls (put 3 "%100,00012,NACHT  ,000,004,                              ")))
    (refused 10 TIMETBLS 1 1) ∷
    -- "000 for stop 1 and 999 for stop n"
    claim "001 and 003 for 000 and 999" (load (edit Timetbls (put 3 "%100,00012,NACHT  ,001,003,                              "))) (accepted 10 3) ∷
    claim "000 as last" (load (edit Timetbls (put 4 "-00001,000,000"))) (refused 10 TIMETBLS 1 1) ∷
    claim "999 as first" (load (edit Timetbls (put 5 "&BOAT,999,999"))) (refused 10 TIMETBLS 1 1) ∷
    claim "first is last" (load (at Timetbls (put 14 "-00002,001,003") (edit Timetbls (put 15 "-00001,003,003")))) (refused 10 TIMETBLS 2 1) ∷
    claim "first after last" (load (at Timetbls (put 14 "-00002,001,003") (edit Timetbls (put 15 "-00001,003,002")))) (refused 10 TIMETBLS 2 1) ∷
    -- "and for each kind every leg lies in exactly one record"
    claim "`%` lacks leg 2" (load (edit Timetbls (put 13 "%200,00013,       ,001,002,                              "))) (refused 10 TIMETBLS 2 1) ∷
    claim "`%` has leg 2 twice" (load (edit Timetbls (put 22 "%100,00014,       ,002,004,                              ")))
    (refused 10 TIMETBLS 3 1) ∷
    claim "`-` lacks leg 1" (load (edit Timetbls (put 4 "-00001,002,999"))) (refused 10 TIMETBLS 1 1) ∷
    claim "`-` has leg 1 twice" (load (edit Timetbls (put 15 "-00001,001,003"))) (refused 10 TIMETBLS 2 1) ∷
    -- covering stops is not covering legs
    claim "stops 1 to 2 and 3 to 4: leg 2 lies in neither" (load (edit Timetbls (put 25 "&BOAT,003,999"))) (refused 10 TIMETBLS 3 1) ∷
    claim "`&` has leg 2 twice" (load (edit Timetbls (put 24 "&IC  ,001,003"))) (refused 10 TIMETBLS 3 1) ∷
    -- the records of a kind in any order
    claim "the later legs first" (load (at Timetbls (put 15 "-00002,001,002") (edit Timetbls (put 14 "-00001,002,003")))) (accepted 10 3) ∷
    -- "For `*`: 1 ≤ first ≤ last ≤ n." (one stop: Borders)
    claim "`*` from 000 to 999" (load (edit Timetbls (put 6 "*FIET,000,999,00001"))) (accepted 10 3) ∷
    claim "`*` beyond the last stop" (load (edit Timetbls (put 6 "*FIET,003,004,00001"))) (refused 10 TIMETBLS 1 1) ∷
    claim "`*` backwards" (load (edit Timetbls (put 6 "*FIET,003,002,00001"))) (refused 10 TIMETBLS 1 1) ∷
    -- two `*` may share stops and leave some out
    claim "two `*` with the same stops" (load (edit Timetbls (insert 6 "*BAR ,001,002,00002"))) (accepted 10 3) ∷
    []

pub ranges_hold : Hold ranges
unfolding opened
ranges_hold =
    (refl, (refl, (refl, (refl, (refl, (refl, (refl, (refl, (refl, (refl, (refl, (refl, (refl, (refl, (refl, (refl, (refl, tt)))))))))))))))))
