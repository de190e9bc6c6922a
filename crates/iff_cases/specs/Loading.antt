-- A load: the answer, and the eleven tables in full.
use Prim.{tt}
use Rattle.std.specs.Prelude.{ℕ, ◌≡◌, refl, List, [], ◌∷◌, replicate, Ok, Option}
use Rattle.std.proofs.Common.{◌∙◌}
use Rattle.iff.specs.Files.{PerFile, of, per_file, in_order}
use Rattle.iff.specs.declared.RowFile.TheVariants.{Company, Country, Trnsmode, Stations}
use Rattle.iff.specs.declared.GroupFile.TheVariants.{Timezone, Footnote, Changes, Xfootnote, Xchanges}
use Rattle.iff.specs.declared.File.{File}
use Rattle.iff.specs.declared.File.TheVariants.{Delivery, Rows, Groups, Timetbls}
use Rattle.iff.specs.declared.Reason.{Reason}
use Rattle.iff.specs.declared.Reason.TheVariants.{Reference}
use Rattle.iff_rules.specs.Rows.{rows_of_files}
use Rattle.iff_rules.specs.Load.{load_verdict, load_answer, filled, load_table}
use Rattle.small_delivery.specs.Claims.{Claim, claim, Holds, Hold, each, each_hold}
use Rattle.small_delivery.specs.Opened.{opened}
use Rattle.small_delivery.specs.Delivery.{small, files, put, edit}
use Rattle.small_delivery.specs.Shown.{accepted, refused, shown, XCHANGES, file}
use Rattle.small_delivery.specs.Check.{eight_hundred, last_stop, checked}
use Rattle.small_delivery.specs.Stored.{stored, rooms}
use Rattle.iff.specs.Refusals.{at_place, fault_at}
use Rattle.iff.specs.declared.Place.{Place}

-- the table of a load that finds no fault, and of one that finds one
accepted_table : (F : PerFile (List ℕ)) (R : PerFile ℕ) → load_verdict F R ≡ Ok tt
    → (f : File) → load_table f F R ≡ filled f (of R f) (of (rows_of_files F) f)
unfolding load_table
accepted_table F R fine f = rw fine

refused_table : (F : PerFile (List ℕ)) (R : PerFile ℕ) (r : Reason) (p : Option Place) → load_verdict F R ≡ fault_at r p
    → (f : File) → load_table f F R ≡ replicate (of R f) 0
unfolding load_table
refused_table F R r p fault f = rw fault

-- "Tables hold numbers wider than a byte. Kept: all fields but free text and unread columns; 000 and 999 as 1 and n." "Unused places hold zero"
abbrev small_table : File → Claim
small_table f = claim (file f) (load_table f (files small) rooms) (of stored f)

-- "an accepted load .. answers days and services"
abbrev small_answer : Claim
small_answer = claim "the small delivery" (shown (load_answer (files small) rooms)) (accepted 10 3)

abbrev pub loading : List Claim
loading = small_answer ∷ each small_table in_order

small_fine : load_verdict (files small) rooms ≡ Ok tt
unfolding opened
small_fine = refl

small_rows : (f : File) → filled f (of rooms f) (of (rows_of_files (files small)) f) ≡ of stored f
unfolding opened
small_rows Delivery = refl
small_rows (Rows Company) = refl
small_rows (Rows Country) = refl
small_rows (Rows Trnsmode) = refl
small_rows (Rows Stations) = refl
small_rows (Groups Timezone) = refl
small_rows (Groups Footnote) = refl
small_rows (Groups Changes) = refl
small_rows (Groups Xfootnote) = refl
small_rows (Groups Xchanges) = refl
small_rows Timetbls = refl

small_answers : Holds small_answer
unfolding opened
small_answers = refl

pub loading_hold : Hold loading
loading_hold =
    (small_answers, each_hold small_table in_order (λ f. accepted_table (files small) rooms small_fine f ∙ small_rows f))

-- a station that is not there, in the last line of the last file
abbrev faulty : PerFile (List ℕ)
faulty = files (edit (Groups Xchanges) (put 7 "#DDD    "))

abbrev faulty_answer : Claim
faulty_answer = claim "a station that is not there" (shown (load_answer faulty rooms)) (refused 9 XCHANGES 0 7)

-- "A refused load zeroes every table"
abbrev zero_table : File → Claim
zero_table f = claim (file f) (load_table f faulty rooms) (replicate (of rooms f) 0)

abbrev pub zeroing : List Claim
zeroing = faulty_answer ∷ each zero_table in_order

faulty_verdict : load_verdict faulty rooms ≡ fault_at Reference (at_place (Groups Xchanges) 0 7)
unfolding opened
faulty_verdict = refl

faulty_answers : Holds faulty_answer
unfolding opened
faulty_answers = refl

pub zeroing_hold : Hold zeroing
zeroing_hold =
    (faulty_answers, each_hold zero_table in_order (refused_table faulty rooms Reference (at_place (Groups Xchanges) 0 7) faulty_verdict))

-- the first line's row, the footnote's, and a vector of 800 ones
abbrev eight_hundred_days : List ℕ
eight_hundred_days =
    64 ∷ 100 ∷ 1012015 ∷ 10032017 ∷ 1 ∷ 1 ∷ 0 ∷ 0 ∷ 0 ∷ 0 ∷ 0 ∷ 0 ∷ 0 ∷ 0
    ∷ 35 ∷ 1 ∷ 0 ∷ 0 ∷ 0 ∷ 0 ∷ 0 ∷ 0 ∷ 0 ∷ 0 ∷ 0 ∷ 0 ∷ 0 ∷ 0
    ∷ 1 ∷ 0xFFFFFFFFFFFFFFFF ∷ 0xFFFFFFFFFFFFFFFF ∷ 0xFFFFFFFFFFFFFFFF ∷ 0xFFFFFFFFFFFFFFFF ∷ 0xFFFFFFFFFFFFFFFF ∷ 0xFFFFFFFFFFFFFFFF
    ∷ 0xFFFFFFFFFFFFFFFF ∷ 0xFFFFFFFFFFFFFFFF ∷ 0xFFFFFFFFFFFFFFFF ∷ 0xFFFFFFFFFFFFFFFF ∷ 0xFFFFFFFFFFFFFFFF ∷ 0xFFFFFFFFFFFFFFFF
    ∷ 0xFFFFFFFF
    ∷ replicate 7 0

-- the check program's delivery, into tables of 49 words
abbrev eight_hundred_table : File → List ℕ
eight_hundred_table f = load_table f (checked eight_hundred 800 last_stop) (per_file (λ f. 49))

abbrev pub spans : List Claim
spans =
    -- "one vector line of `0` and `1`, one per day of validity": 800 days are twelve full words and 32 bits
    claim "a vector of 800 days" (eight_hundred_table (Groups Footnote)) eight_hundred_days ∷
    -- the last three absent, the tables all zero
    claim "no CHANGES" (eight_hundred_table (Groups Changes)) (replicate 49 0) ∷
    claim "no XFOOTNOTE" (eight_hundred_table (Groups Xfootnote)) (replicate 49 0) ∷
    claim "no XCHANGES" (eight_hundred_table (Groups Xchanges)) (replicate 49 0) ∷
    []

pub spans_hold : Hold spans
unfolding opened
spans_hold = (refl, (refl, (refl, (refl, tt))))
