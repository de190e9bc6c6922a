-- "Running day: service, leg, date. 12, 13, 14."
use Prim.{tt}
use Rattle.std.specs.Prelude.{refl, List, [], ◌∷◌, Err, Ok, false, true}
use Rattle.iff.specs.Files.{per_file}
use Rattle.small_delivery.specs.Claims.{Claim, claim, Hold}
use Rattle.small_delivery.specs.Opened.{opened}
use Rattle.small_delivery.specs.Stored.{stored, tampered}
use Rattle.iff_desk.specs.Running.{running_day}
use Rattle.iff.specs.declared.Reason.TheVariants.{NoService, NoStop, NoDate, NotSound}

-- each answer
abbrev pub runnings : List Claim
runnings =
    -- "A service runs on leg k on a date .. if the vector of that leg's `-` record has 1 on it, counted from the first day."
    claim "the first day" (running_day stored 7 1 1011615) (Ok true) ∷
    -- 1010101010 on leg 1
    claim "the first mark is 1" (running_day stored 8 1 1011615) (Ok true) ∷
    claim "the second mark is 0" (running_day stored 8 1 2011615) (Ok false) ∷
    claim "the ninth mark is 1" (running_day stored 8 1 9011615) (Ok true) ∷
    claim "the last mark is 0" (running_day stored 8 1 10011615) (Ok false) ∷
    -- 1111111111 on leg 2 of the same service
    claim "another leg on the second day" (running_day stored 8 2 2011615) (Ok true) ∷
    claim "a leg up to 999" (running_day stored 9 3 10011615) (Ok true) ∷
    []

pub runnings_hold : Hold runnings
unfolding opened
runnings_hold = (refl, (refl, (refl, (refl, (refl, (refl, (refl, tt)))))))

-- 12, 13, 14 and 16
abbrev pub refusals : List Claim
refusals =
    claim "no such service" (running_day stored 6 1 1011615) (Err NoService) ∷
    claim "a service beyond eight digits" (running_day stored 100000007 1 1011615) (Err NoService) ∷
    claim "leg 0" (running_day stored 7 0 1011615) (Err NoStop) ∷
    -- a `;` has no number: three stops, two legs
    claim "leg 3 of three stops" (running_day stored 7 3 1011615) (Err NoStop) ∷
    -- "not a date, or outside validity"
    claim "the day before the first" (running_day stored 7 1 31121614) (Err NoDate) ∷
    claim "the day after the last" (running_day stored 7 1 11011615) (Err NoDate) ∷
    claim "not a date" (running_day stored 7 1 29021615) (Err NoDate) ∷
    claim "a date beyond eight digits" (running_day stored 7 1 101011615) (Err NoDate) ∷
    claim "12 before 13 and 14" (running_day stored 6 0 0) (Err NoService) ∷
    claim "13 before 14" (running_day stored 7 0 0) (Err NoStop) ∷
    -- "Calls that are lent a loaded store test 16 first."
    claim "empty tables" (running_day (per_file (λ f. [])) 6 0 0) (Err NotSound) ∷
    claim "one word that should be zero" (running_day tampered 7 1 1011615) (Err NotSound) ∷
    []

pub refusals_hold : Hold refusals
unfolding opened
refusals_hold = (refl, (refl, (refl, (refl, (refl, (refl, (refl, (refl, (refl, (refl, (refl, (refl, tt))))))))))))
