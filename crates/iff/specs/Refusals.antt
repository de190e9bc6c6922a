-- "Refusals and their order": the numbers, the places, and the first fault of several tests.
use Rattle.std.specs.Prelude.{ℕ, suc, List, [], ◌∷◌, Bool, true, false, Err, None, Ok, Option, Some, Result}
use Rattle.iff.specs.declared.Reason.{Reason}
use Rattle.iff.specs.declared.Reason.TheVariants.{TooLong, NoRoom, Absent, Layout, Value, FirstLine, Order, Duplicate, Reference, Legs, NotOneBlock, NoService, NoStop, NoDate, NoPeriod, NotSound, NoStation, ShortList}
use Rattle.iff.specs.declared.Place.{Place}
use Rattle.iff.specs.declared.Fault.{Fault}
use Rattle.iff.specs.declared.Accepted.{Accepted}
use Rattle.iff.specs.declared.File.{File}

-- the paper's number of each refusal
abbrev pub number : Reason → ℕ
number TooLong = 1
number NoRoom = 2
number Absent = 3
number Layout = 4
number Value = 5
number FirstLine = 6
number Order = 7
number Duplicate = 8
number Reference = 9
number Legs = 10
number NotOneBlock = 11
number NoService = 12
number NoStop = 13
number NoDate = 14
number NoPeriod = 15
number NotSound = 16
number NoStation = 17
number ShortList = 23

-- a place's ordinal and line; 0, 0 where there is none
abbrev pub ordinal : Option Place → ℕ
ordinal None = 0
ordinal (Some place) = place.ordinal

abbrev pub line_at : Option Place → ℕ
line_at None = 0
line_at (Some place) = place.line

-- what the tests of one line say
abbrev pub Test : Type 0
Test = Result (Unit {0}) Reason

-- what the tests of lines, blocks and files say: nothing, or the first fault
abbrev pub Verdict : Type 0
Verdict = Result (Unit {0}) Fault

-- what a load or an amendment answers
abbrev pub Answer : Type 0
Answer = Result Accepted Fault

-- line l of the block with ordinal o in file f; the days and services of what is accepted; a reason with its place
abbrev pub at_place : File → ℕ → ℕ → Option Place
at_place f o l = Some (record { file = f; ordinal = o; line = l })

abbrev pub accepted_with : ℕ → ℕ → Answer
accepted_with d s = Ok (record { days = d; services = s })

abbrev pub fault_at : {A : Type 0} → Reason → Option Place → Result A Fault
fault_at r p = Err (record { reason = r; place = p })

-- the first of several tests of a line that fails
abbrev pub or_test : Test → Test → Test
or_test (Ok _) t = t
or_test (Err r) t = Err r

unfoldable pub first_test : List Test → Test
first_test [] = Ok tt
first_test (t ∷ ts) = or_test t (first_test ts)

abbrev pub unless : Bool → Reason → Test
unless true r = Ok tt
unless false r = Err r

-- a line's test as a verdict, at its place
abbrev pub verdict_at : Option Place → Test → Verdict
verdict_at p (Ok _) = Ok tt
verdict_at p (Err r) = fault_at r p

-- the first of several verdicts that is a fault
abbrev pub or_else : Verdict → Verdict → Verdict
or_else (Ok _) v = v
or_else (Err fault) v = fault_at fault.reason fault.place

unfoldable pub first_fault : List Verdict → Verdict
first_fault [] = Ok tt
first_fault (v ∷ vs) = or_else v (first_fault vs)

abbrev pub passing : Test → Bool
passing (Ok _) = true
passing (Err r) = false

abbrev pub fine : Verdict → Bool
fine (Ok _) = true
fine (Err fault) = false

-- the entries of a list in turn, each with its number and the state that those before it leave: the first fault
module _ {S A : Type 0} (test : S → ℕ → A → Verdict) (next : S → A → S) where
  unfoldable pub scan : S → ℕ → List A → Verdict
  scan st i [] = Ok tt
  scan st i (x ∷ xs) = or_else (test st i x) (scan (next st x) (suc i) xs)

-- the state after some entries
module _ {S A : Type 0} (next : S → A → S) where
  unfoldable pub after : S → List A → S
  after st [] = st
  after st (x ∷ xs) = after (next st x) xs

-- a verdict as the answer of a call
abbrev pub answer : Verdict → ℕ → ℕ → Answer
answer (Ok _) days services = accepted_with days services
answer (Err fault) days services = fault_at fault.reason fault.place
