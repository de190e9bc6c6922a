-- Request W3, ranks that a clerk can read: "a table of sixteen entries in the order of the desk's own card, from all wildcards to none, in place of
-- the sum". Each pattern's place is reckoned by the sum that it was: 8, 4, 2, 1 for an explicit from company, from mode, to company, to mode.
use Prim.{tt}
use Rattle.std.specs.Prelude.{ℕ, refl, List, [], ◌∷◌, length, None}
use Rattle.iff.specs.Tables.{Row}
use Rattle.iff_desk.specs.Card.{card, best_of}
use Rattle.iff_desk.specs.Changing.{rank, best}
use Rattle.iff_desk.specs.declared.Riding.{Riding}
use Rattle.small_delivery.specs.Claims.{Claim, claim, Hold}
use Rattle.small_delivery.specs.Opened.{opened}

-- company 200 and mode IC, and `*` in three and in four columns
abbrev co : ℕ
co = 200

abbrev mo : ℕ
mo = 0x49432020

abbrev any_co : ℕ
any_co = 0x2A2020

abbrev any_mo : ℕ
any_mo = 0x2A202020

abbrev keys : ℕ → ℕ → Riding
keys company mode = record { company = company; mode = mode }

-- a row of XCHANGES
abbrev exception : ℕ → ℕ → ℕ → ℕ → ℕ → Row
exception from_company from_mode to_company to_mode time = 45 ∷ from_company ∷ from_mode ∷ to_company ∷ to_mode ∷ time ∷ 1 ∷ []

-- "sixteen entries", each with its place
abbrev pub places : List Claim
places =
    claim "sixteen" (length card) 16 ∷
    claim "****" (rank (keys any_co any_mo) (keys any_co any_mo)) 0 ∷
    claim "***m" (rank (keys any_co any_mo) (keys any_co mo)) 1 ∷
    claim "**c*" (rank (keys any_co any_mo) (keys co any_mo)) 2 ∷
    claim "**cm" (rank (keys any_co any_mo) (keys co mo)) 3 ∷
    claim "*m**" (rank (keys any_co mo) (keys any_co any_mo)) 4 ∷
    claim "*m*m" (rank (keys any_co mo) (keys any_co mo)) 5 ∷
    claim "*mc*" (rank (keys any_co mo) (keys co any_mo)) 6 ∷
    claim "*mcm" (rank (keys any_co mo) (keys co mo)) 7 ∷
    claim "c***" (rank (keys co any_mo) (keys any_co any_mo)) 8 ∷
    claim "c**m" (rank (keys co any_mo) (keys any_co mo)) 9 ∷
    claim "c*c*" (rank (keys co any_mo) (keys co any_mo)) 10 ∷
    claim "c*cm" (rank (keys co any_mo) (keys co mo)) 11 ∷
    claim "cm**" (rank (keys co mo) (keys any_co any_mo)) 12 ∷
    claim "cm*m" (rank (keys co mo) (keys any_co mo)) 13 ∷
    claim "cmc*" (rank (keys co mo) (keys co any_mo)) 14 ∷
    claim "cmcm" (rank (keys co mo) (keys co mo)) 15 ∷
    []

pub places_hold : Hold places
unfolding opened
places_hold = (refl, (refl, (refl, (refl, (refl, (refl, (refl, (refl, (refl, (refl, (refl, (refl, (refl, (refl, (refl, (refl, (refl, tt)))))))))))))))))

-- a key is named where it is not the wildcard of its own columns: `*` of a mode is no wildcard of a company
abbrev pub names : List Claim
names =
    claim "the other key's wildcard" (rank (keys any_mo any_co) (keys any_mo any_co)) 15 ∷
    claim "0" (rank (keys 0 any_mo) (keys any_co 0)) 9 ∷
    []

pub names_hold : Hold names
unfolding opened
names_hold = (refl, (refl, tt))

-- each beats the one before it on the card, with the smaller time, whichever stands first
abbrev pub in_turn : List Claim
in_turn =
    claim "***m before ****" (best None (exception any_co any_mo any_co any_mo 99 ∷ exception any_co any_mo any_co mo 10 ∷ [])) (best_of 1 10) ∷
    claim "**c* before ***m" (best None (exception any_co any_mo co any_mo 10 ∷ exception any_co any_mo any_co mo 99 ∷ [])) (best_of 2 10) ∷
    claim "**cm before **c*" (best None (exception any_co any_mo co any_mo 99 ∷ exception any_co any_mo co mo 10 ∷ [])) (best_of 3 10) ∷
    claim "*m** before **cm" (best None (exception any_co mo any_co any_mo 10 ∷ exception any_co any_mo co mo 99 ∷ [])) (best_of 4 10) ∷
    claim "*m*m before *m**" (best None (exception any_co mo any_co any_mo 99 ∷ exception any_co mo any_co mo 10 ∷ [])) (best_of 5 10) ∷
    claim "*mc* before *m*m" (best None (exception any_co mo co any_mo 10 ∷ exception any_co mo any_co mo 99 ∷ [])) (best_of 6 10) ∷
    claim "*mcm before *mc*" (best None (exception any_co mo co any_mo 99 ∷ exception any_co mo co mo 10 ∷ [])) (best_of 7 10) ∷
    claim "c*** before *mcm" (best None (exception co any_mo any_co any_mo 10 ∷ exception any_co mo co mo 99 ∷ [])) (best_of 8 10) ∷
    claim "c**m before c***" (best None (exception co any_mo any_co any_mo 99 ∷ exception co any_mo any_co mo 10 ∷ [])) (best_of 9 10) ∷
    claim "c*c* before c**m" (best None (exception co any_mo co any_mo 10 ∷ exception co any_mo any_co mo 99 ∷ [])) (best_of 10 10) ∷
    claim "c*cm before c*c*" (best None (exception co any_mo co any_mo 99 ∷ exception co any_mo co mo 10 ∷ [])) (best_of 11 10) ∷
    claim "cm** before c*cm" (best None (exception co mo any_co any_mo 10 ∷ exception co any_mo co mo 99 ∷ [])) (best_of 12 10) ∷
    claim "cm*m before cm**" (best None (exception co mo any_co any_mo 99 ∷ exception co mo any_co mo 10 ∷ [])) (best_of 13 10) ∷
    claim "cmc* before cm*m" (best None (exception co mo co any_mo 10 ∷ exception co mo any_co mo 99 ∷ [])) (best_of 14 10) ∷
    claim "cmcm before cmc*" (best None (exception co mo co any_mo 99 ∷ exception co mo co mo 10 ∷ [])) (best_of 15 10) ∷
    -- "Highest rank wins, then the larger time."
    claim "one place, two times" (best None (exception co any_mo any_co mo 10 ∷ exception co any_mo any_co mo 20 ∷ [])) (best_of 9 20) ∷
    []

pub in_turn_hold : Hold in_turn
unfolding opened
in_turn_hold = (refl, (refl, (refl, (refl, (refl, (refl, (refl, (refl, (refl, (refl, (refl, (refl, (refl, (refl, (refl, (refl, tt))))))))))))))))
