-- What two refusals, two answers or two places that are the same have in common. Assumes nothing.
use Rattle.std.specs.Prelude.{ℕ, ◌≡◌, Option, Result, Ok, Err}
use Rattle.std.proofs.Common.{ap}
use Rattle.iff.specs.Refusals.{Answer, accepted_with, fault_at}
use Rattle.iff.specs.declared.Place.{Place}
use Rattle.iff.specs.declared.Fault.{Fault}
use Rattle.iff.specs.declared.Reason.{Reason}

-- what a refusal or an answer holds, and else what is given
reason_in : {A : Type 0} → Reason → Result A Fault → Reason
reason_in r (Ok _) = r
reason_in r (Err fault) = fault.reason

place_in : {A : Type 0} → Option Place → Result A Fault → Option Place
place_in p (Ok _) = p
place_in p (Err fault) = fault.place

days_in : ℕ → Answer → ℕ
days_in d (Ok done) = done.days
days_in d (Err fault) = d

services_in : ℕ → Answer → ℕ
services_in s (Ok done) = done.services
services_in s (Err fault) = s

pub same_reason : {A : Type 0} {r q : Reason} {p o : Option Place} → ◌≡◌ {A = Result A Fault} (fault_at r p) (fault_at q o) → r ≡ q
unfolding reason_in
same_reason {r = r} e = ap (reason_in r) e

pub same_place : {A : Type 0} {r q : Reason} {p o : Option Place} → ◌≡◌ {A = Result A Fault} (fault_at r p) (fault_at q o) → p ≡ o
unfolding place_in
same_place {p = p} e = ap (place_in p) e

pub same_days : {d e s t : ℕ} → accepted_with d s ≡ accepted_with e t → d ≡ e
unfolding days_in
same_days {d = d} q = ap (days_in d) q

pub same_services : {d e s t : ℕ} → accepted_with d s ≡ accepted_with e t → s ≡ t
unfolding services_in
same_services {s = s} q = ap (services_in s) q
