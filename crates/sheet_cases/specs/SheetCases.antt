-- Request W12, a sheet at a time: "fills a lent list of answers, each the one that the single question gives. .. Refusals: 16, then 23 answer list
-- shorter than the questions; both write no answer." The answers of these changes are cases of `desk_cases`; here are their words, by the numbers that
-- the exported change gives, with the gap last.
use Prim.{tt}
use Rattle.std.specs.Prelude.{ℕ, refl, List, [], ◌∷◌, ◌++◌, pos, negsuc, replicate, take, Err, Ok}
use Rattle.iff.specs.Files.{PerFile}
use Rattle.iff.specs.declared.Reason.TheVariants.{NotSound, ShortList}
use Rattle.iff_desk.specs.Sheet.{answers_by, sheet_test}
use Rattle.iff_desk.specs.declared.Source.TheVariants.{FromStations, FromXchanges}
use Rattle.iff_desk.specs.declared.Change.TheVariants.{Yes, Unsettled}
use Rattle.small_delivery.specs.Claims.{Claim, claim, Hold}
use Rattle.small_delivery.specs.Opened.{opened}
use Rattle.small_delivery.specs.Stored.{stored, tampered}
use Rattle.sheet_answers.specs.Words.{signed_word, sheet_words, answered_in, sheet_list}
use Rattle.iff.specs.Refusals.{Test}

-- QUESTIONS: a change with gap 0, one a day too early, a service that is not there
abbrev yes : List ℕ
yes = 7 ∷ 2 ∷ 2011615 ∷ 8 ∷ 1 ∷ 3011615 ∷ []

abbrev short : List ℕ
short = 7 ∷ 2 ∷ 3011615 ∷ 8 ∷ 1 ∷ 3011615 ∷ []

abbrev lost : List ℕ
lost = 5 ∷ 2 ∷ 1011615 ∷ 8 ∷ 1 ∷ 3011615 ∷ []

-- and their answers: Yes by CHANGES, needed 0, gap 0; No, since the gap of -1440 is below it, and 2^64 less 1440; 12
abbrev yes_words : List ℕ
yes_words = 0 ∷ 2 ∷ 0 ∷ 1 ∷ 1 ∷ 1 ∷ 0 ∷ 0 ∷ []

abbrev short_words : List ℕ
short_words = 0 ∷ 1 ∷ 9 ∷ 1 ∷ 1 ∷ 1 ∷ 0 ∷ 18446744073709550176 ∷ []

abbrev lost_words : List ℕ
lost_words = 12 ∷ 0 ∷ 0 ∷ 0 ∷ 0 ∷ 0 ∷ 0 ∷ 0 ∷ []

-- a lent list of n words
abbrev junk : ℕ → List ℕ
junk n = replicate n 77

-- the refusal and the list after it
abbrev after : PerFile (List ℕ) → List ℕ → List ℕ → Test × List ℕ
after T qs list = (sheet_test T qs list, sheet_list T qs list)

-- "each the one that the single question gives": a refusal of one stops none after it
abbrev pub answered : List Claim
answered =
    claim "three, and a word behind them" (after stored (yes ++ (lost ++ short)) (junk 25)) (Ok tt, yes_words ++ (lost_words ++ (short_words ++ junk 1))) ∷
    claim "room for one, exactly" (after stored short (junk 8)) (Ok tt, short_words) ∷
    claim "room for one more" (after stored lost (junk 16)) (Ok tt, lost_words ++ junk 8) ∷
    -- five words are no question
    claim "one, and five words behind it" (after stored (yes ++ take 5 short) (junk 9)) (Ok tt, yes_words ++ junk 1) ∷
    claim "none, and no list" (after stored [] []) (Ok tt, []) ∷
    claim "none, of five words" (after stored (take 5 yes) (junk 9)) (Ok tt, junk 9) ∷
    []

pub answered_hold : Hold answered
unfolding opened answers_by sheet_test sheet_words answered_in
answered_hold = (refl, (refl, (refl, (refl, (refl, (refl, tt))))))

-- "16, then 23 answer list shorter than the questions; both write no answer"
abbrev pub refused : List Claim
refused =
    -- seven words are no answer
    claim "room for none" (after stored yes (junk 7)) (Err ShortList, junk 7) ∷
    -- more words than the questions have, and room for one answer less
    claim "room for one of two" (after stored (yes ++ short) (junk 15)) (Err ShortList, junk 15) ∷
    claim "no list" (after stored lost []) (Err ShortList, []) ∷
    claim "tables that are not sound" (after tampered yes (junk 8)) (Err NotSound, junk 8) ∷
    claim "and no question" (after tampered [] (junk 8)) (Err NotSound, junk 8) ∷
    claim "and no list" (after tampered yes []) (Err NotSound, []) ∷
    []

pub refused_hold : Hold refused
unfolding opened answers_by sheet_test sheet_words answered_in
refused_hold = (refl, (refl, (refl, (refl, (refl, (refl, tt))))))

-- a gap as a word of 64 bits, and all eight words of an answer
abbrev pub words : List Claim
words =
    claim "0" (signed_word (pos 0)) 0 ∷
    claim "-1" (signed_word (negsuc 0)) 0xFFFFFFFFFFFFFFFF ∷
    claim "-1440" (signed_word (negsuc 1439)) 0xFFFFFFFFFFFFFA60 ∷
    claim "the least of 32 bits" (signed_word (negsuc 2147483647)) 0xFFFFFFFF80000000 ∷
    claim "Unsettled by an exception" (sheet_words (Ok (Unsettled (pos 999) FromXchanges 999))) (0 ∷ 3 ∷ 0 ∷ 1 ∷ 3 ∷ 1 ∷ 999 ∷ 999 ∷ []) ∷
    claim "Yes by the station" (sheet_words (Ok (Yes (pos 90) FromStations 5))) (0 ∷ 2 ∷ 0 ∷ 1 ∷ 2 ∷ 1 ∷ 5 ∷ 90 ∷ []) ∷
    []

pub words_hold : Hold words
unfolding opened sheet_words
words_hold = (refl, (refl, (refl, (refl, (refl, (refl, tt))))))
