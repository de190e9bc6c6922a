-- Laws of verdicts, once for all files: a list of tests has no fault exactly when none of them fails; its fault is the first;
-- a scan is the list of its entries' tests, each in its state.
use Prim.Native.Nat.{ℕ, zero, suc, ◌+◌, ◌<◌}
use Rattle.std.specs.Prelude.{◌≡◌, ◌↔◌, Bool, true, false, length, take, Err, Ok, Option}
use Rattle.std.proofs.Math.Path.{refl, ap}
use Rattle.std.proofs.Common.{sym, ◌∙◌, true≢false, add-zero}
use mathlib.Core.List.{List, [], ◌∷◌, ◌++◌, map}
use Rattle.std.proofs.lemmas.Bool.{false≢true}
use native.Mathlib.Omega.{arith}
use Rattle.std.proofs.Math.ListN.{get_or}
use Rattle.iff.specs.Refusals.{or_else, first_fault, fine, first_test, passing, unless, verdict_at, scan, after, Test, Verdict, fault_at}
use Rattle.iff.specs.declared.Reason.{Reason}
use Rattle.iff_laws.specs.Tests.{along, First}
use Rattle.iff.specs.declared.Place.{Place}

-- TESTS OF A LINE
pub unless_passes : (b : Bool) (r : Reason) → unless b r ≡ Ok tt → b ≡ true
unless_passes true r e = refl
unless_passes false r e = absurd (false≢true (ap passing e))

pub verdict_fine : (p : Option Place) (t : Test) → verdict_at p t ≡ Ok tt → t ≡ Ok tt
verdict_fine p (Ok _) e = refl
verdict_fine p (Err r) e = absurd (false≢true (ap fine e))

pub first_test_lem : (t : Test) (ts : List Test) → first_test (t ∷ ts) ≡ Ok tt → (t ≡ Ok tt) × (first_test ts ≡ Ok tt)
unfolding first_test
first_test_lem (Ok _) ts e = (refl, e)
first_test_lem (Err r) ts e = absurd (false≢true (ap passing e))

-- VERDICTS IN TURN
pub or_fine : (v w : Verdict) → or_else v w ≡ Ok tt → (v ≡ Ok tt) × (w ≡ Ok tt)
or_fine (Ok _) w e = (refl, e)
or_fine (Err fault) w e = absurd (false≢true (ap fine e))

pub fine_or : {v w : Verdict} → v ≡ Ok tt → w ≡ Ok tt → or_else v w ≡ Ok tt
fine_or d e = rw (d, e)

pub first_append : (vs ws : List Verdict) → first_fault (vs ++ ws) ≡ or_else (first_fault vs) (first_fault ws)
unfolding first_fault
first_append [] ws = refl
first_append (Ok _ ∷ vs) ws = first_append vs ws
first_append (Err fault ∷ vs) ws = refl

pub or_nothing : (v : Verdict) → or_else v (Ok tt) ≡ v
or_nothing (Ok _) = refl
or_nothing (Err fault) = refl

pub first_one : (v : Verdict) → first_fault (v ∷ []) ≡ v
unfolding first_fault
first_one v = or_nothing v

-- verdicts in turn, each the first fault of some tests, are the first fault of all those tests
pub in_turn_lem : {v w : Verdict} (vs ws : List Verdict) → v ≡ first_fault vs → w ≡ first_fault ws → or_else v w ≡ first_fault (vs ++ ws)
in_turn_lem vs ws d e = rw (d, e, first_append)

pub turn : {v : Verdict} (rest vs ws : List Verdict)
    → v ≡ first_fault vs → first_fault rest ≡ first_fault ws → first_fault (v ∷ rest) ≡ first_fault (vs ++ ws)
unfolding first_fault
turn rest vs ws d e = in_turn_lem vs ws d e

pub same_turn : (v : Verdict) (rest ws : List Verdict) → first_fault rest ≡ first_fault ws → first_fault (v ∷ rest) ≡ first_fault (v ∷ ws)
unfolding first_fault
same_turn v rest ws e = ap (or_else v) e

pub last_turn : {v : Verdict} (vs : List Verdict) → v ≡ first_fault vs → first_fault (v ∷ []) ≡ first_fault vs
last_turn vs e = first_one _ ∙ e

-- NO FAULT, OR THE FIRST
pub append_fine : (vs ws : List Verdict) → first_fault (vs ++ ws) ≡ Ok tt → (first_fault vs ≡ Ok tt) × (first_fault ws ≡ Ok tt)
append_fine vs ws e = or_fine (first_fault vs) (first_fault ws) (sym (first_append vs ws) ∙ e)

pub fine_append : (vs ws : List Verdict) → first_fault vs ≡ Ok tt → first_fault ws ≡ Ok tt → first_fault (vs ++ ws) ≡ Ok tt
fine_append vs ws d e = first_append vs ws ∙ fine_or d e

pub cons_fine : (v : Verdict) (vs : List Verdict) → first_fault (v ∷ vs) ≡ Ok tt → (v ≡ Ok tt) × (first_fault vs ≡ Ok tt)
unfolding first_fault
cons_fine v vs e = or_fine v (first_fault vs) e

pub fine_cons : (v : Verdict) (vs : List Verdict) → v ≡ Ok tt → first_fault vs ≡ Ok tt → first_fault (v ∷ vs) ≡ Ok tt
unfolding first_fault
fine_cons v vs d e = fine_or d e

pub no_fault_all : (vs : List Verdict) → first_fault vs ≡ Ok tt → (i : ℕ) → i < length vs → get_or vs i (Ok tt) ≡ Ok tt
no_fault_all [] e i h = refl
no_fault_all (v ∷ vs) e zero h = (cons_fine v vs e).0
no_fault_all (v ∷ vs) e (suc i) h = no_fault_all vs (cons_fine v vs e).1 i (omega arith)

pub all_no_fault : (vs : List Verdict) → ((i : ℕ) → i < length vs → get_or vs i (Ok tt) ≡ Ok tt) → first_fault vs ≡ Ok tt
unfolding first_fault
all_no_fault [] f = refl
all_no_fault (v ∷ vs) f = fine_or (f 0 (omega arith)) (all_no_fault vs (λ i h. f (suc i) (omega arith)))

-- a list of tests has no fault exactly when none fails
pub no_fault : (vs : List Verdict) → (first_fault vs ≡ Ok tt) ↔ ((i : ℕ) → i < length vs → get_or vs i (Ok tt) ≡ Ok tt)
no_fault vs = (no_fault_all vs, all_no_fault vs)

module _ {r : Reason} {p : Option Place} where
  pub fault_is_first : (vs : List Verdict) → first_fault vs ≡ fault_at r p → First vs r p
  unfolding first_fault
  fault_is_first [] e = absurd (true≢false (ap fine e))
  fault_is_first (Ok _ ∷ vs) e = go (fault_is_first vs e)
    where
      go : First vs r p → First (Ok tt ∷ vs) r p
      go f = record { nth = suc f.nth; inside = omega (arith, f.inside); fails = f.fails; none_before = before }
        where
          before : (i : ℕ) → i < suc f.nth → get_or (Ok tt ∷ vs) i (Ok tt) ≡ Ok tt
          before zero h = refl
          before (suc i) h = f.none_before i (omega arith)
  fault_is_first (Err fault ∷ vs) e = record { nth = 0; inside = omega arith; fails = e; none_before = λ i h. absurd (omega arith) }

  pub first_at : (vs : List Verdict) (n : ℕ)
      → n < length vs → get_or vs n (Ok tt) ≡ fault_at r p → ((i : ℕ) → i < n → get_or vs i (Ok tt) ≡ Ok tt) → first_fault vs ≡ fault_at r p
  unfolding first_fault
  first_at [] n h e b = absurd (omega arith)
  first_at (v ∷ vs) zero h e b = rw e
  first_at (v ∷ vs) (suc n) h e b = rw (b 0 (omega arith)) (first_at vs n (omega arith) e (λ i k. b (suc i) (omega arith)))

-- its fault is the first
pub first_fault_lem : (vs : List Verdict) (r : Reason) (p : Option Place) → (first_fault vs ≡ fault_at r p) ↔ First vs r p
first_fault_lem vs r p = (fault_is_first vs, λ f. first_at vs f.nth f.inside f.fails f.none_before)

-- a line's first failing test is, at its place, its first fault
pub first_test_at : (p : Option Place) (ts : List Test) → verdict_at p (first_test ts) ≡ first_fault (map (verdict_at p) ts)
unfolding first_test first_fault
first_test_at p [] = refl
first_test_at p (Ok _ ∷ ts) = first_test_at p ts
first_test_at p (Err r ∷ ts) = refl

-- TESTS AT 0, 1, .. n - 1
pub along_fine : (n : ℕ) (at : ℕ → List Verdict) → first_fault (along n at) ≡ Ok tt → (j : ℕ) → j < n → first_fault (at j) ≡ Ok tt
unfolding along
along_fine zero at e j h = absurd (omega arith)
along_fine (suc n) at e zero h = (append_fine (at 0) (along n (λ j. at (suc j))) e).0
along_fine (suc n) at e (suc j) h = along_fine n (λ j. at (suc j)) (append_fine (at 0) (along n (λ j. at (suc j))) e).1 j (omega arith)

pub fine_along : (n : ℕ) (at : ℕ → List Verdict) → ((j : ℕ) → j < n → first_fault (at j) ≡ Ok tt) → first_fault (along n at) ≡ Ok tt
unfolding along first_fault
fine_along zero at f = refl
fine_along (suc n) at f =
    fine_append (at 0) (along n (λ j. at (suc j))) (f 0 (omega arith)) (fine_along n (λ j. at (suc j)) (λ j h. f (suc j) (omega arith)))

-- one test at each
module _ (v : ℕ → Verdict) where
  abbrev pub each : ℕ → List Verdict
  each j = v j ∷ []

pub length_along : (n : ℕ) (v : ℕ → Verdict) → length (along n (each v)) ≡ n
unfolding along
length_along zero v = refl
length_along (suc n) v = ap suc (length_along n (λ j. v (suc j)))

pub get_d_along : (n : ℕ) (v : ℕ → Verdict) (j : ℕ) → j < n → get_or (along n (each v)) j (Ok tt) ≡ v j
unfolding along
get_d_along zero v j h = absurd (omega arith)
get_d_along (suc n) v zero h = refl
get_d_along (suc n) v (suc j) h = get_d_along n (λ j. v (suc j)) j (omega arith)

-- A SCAN: the entries' tests, each at its number and in the state that those before it leave
module _ {S A : Type 0} (test : S → ℕ → A → Verdict) (next : S → A → S) (d : A) where
  abbrev pub entry : S → ℕ → List A → ℕ → Verdict
  entry st i xs j = test (after next st (take j xs)) (i + j) (get_or xs j d)

  -- THE LAW OF THE SCAN
  pub scan_along : (st : S) (i : ℕ) (xs : List A) (at : ℕ → List Verdict)
      → ((j : ℕ) → j < length xs → entry st i xs j ≡ first_fault (at j)) → scan test next st i xs ≡ first_fault (along (length xs) at)
  unfolding scan along after first_fault
  scan_along st i [] at f = refl
  scan_along st i (x ∷ xs) at f =
      in_turn_lem (at 0) (along (length xs) (λ j. at (suc j)))
      (ap (λ (n : ℕ). test st n x) (sym (add-zero i)) ∙ f 0 (omega arith))
      (scan_along (next st x) (suc i) xs (λ j. at (suc j))
      (λ j h.
      let n : suc i + j ≡ i + suc j = omega arith in
      ap (λ (n : ℕ). test (after next (next st x) (take j xs)) n (get_or xs j d)) n ∙ f (suc j) (omega arith)))

  pub scan_tests : (st : S) (i : ℕ) (xs : List A) → scan test next st i xs ≡ first_fault (along (length xs) (each (entry st i xs)))
  scan_tests st i xs = scan_along st i xs (each (entry st i xs)) (λ j h. sym (first_one (entry st i xs j)))

  -- no fault exactly when every entry passes in its state
  pub scan_fine : (st : S) (i : ℕ) (xs : List A) → (scan test next st i xs ≡ Ok tt) ↔ ((j : ℕ) → j < length xs → entry st i xs j ≡ Ok tt)
  scan_fine st i xs = (
    λ e j h. sym (first_one (entry st i xs j)) ∙ along_fine (length xs) (each (entry st i xs)) (sym (scan_tests st i xs) ∙ e) j h,
    λ f. scan_tests st i xs ∙ fine_along (length xs) (each (entry st i xs)) (λ j h. first_one (entry st i xs j) ∙ f j h),
  )

  -- a fault exactly when some entry has it in its state and every entry before it passes in its own
  pub record ScanFault (st : S) (i : ℕ) (xs : List A) (r : Reason) (p : Option Place) : Type 0 where
    pub nth : ℕ
    pub inside : nth < length xs
    pub fails : entry st i xs nth ≡ fault_at r p
    pub none_before : (j : ℕ) → j < nth → entry st i xs j ≡ Ok tt

  pub scan_fault : (st : S) (i : ℕ) (xs : List A) (r : Reason) (p : Option Place) → (scan test next st i xs ≡ fault_at r p) ↔ ScanFault st i xs r p
  scan_fault st i xs r p = (there, back)
    where
      there : scan test next st i xs ≡ fault_at r p → ScanFault st i xs r p
      there e =
          let f = fault_is_first (along (length xs) (each (entry st i xs))) (sym (scan_tests st i xs) ∙ e) in
          let h : f.nth < length xs = omega (arith, f.inside, length_along (length xs) (entry st i xs)) in
          record {
            nth = f.nth;
            inside = h;
            fails = sym (get_d_along (length xs) (entry st i xs) f.nth h) ∙ f.fails;
            none_before = λ j k. sym (get_d_along (length xs) (entry st i xs) j (omega arith)) ∙ f.none_before j k;
          }

      back : ScanFault st i xs r p → scan test next st i xs ≡ fault_at r p
      back f =
          scan_tests st i xs
          ∙ first_at (along (length xs) (each (entry st i xs))) f.nth (omega (arith, f.inside, length_along (length xs) (entry st i xs)))
          (get_d_along (length xs) (entry st i xs) f.nth f.inside ∙ f.fails)
          (λ j k. get_d_along (length xs) (entry st i xs) j (omega (arith, f.inside)) ∙ f.none_before j k)
