-- One test put in the place of another, where all the others pass: in a list of tests, and in a scan that keeps the keys it has seen. Laws over
-- plain lists. Assumes nothing.
use Rattle.std.specs.Prelude.{Ok}
use Prim.Native.Nat.{ℕ, zero, suc, ◌+◌, ◌<◌}
use mathlib.Core.Path.{◌≡◌, ap, ◌∙◌}
use mathlib.Core.List.{List, [], ◌∷◌, ◌++◌, map, append_assoc, append-nil}
use native.Mathlib.Nat.{add-zero}
use native.Mathlib.Omega.{arith}
use lib.ListN.{length, set}
use Rattle.iff.specs.Refusals.{or_else, first_fault, scan, Verdict}
use Rattle.iff_laws.specs.ScanLaws.{or_fine, or_nothing, cons_fine}

-- its verdict is the list's
pub lone_fault : (vs : List Verdict) (n : ℕ) (v : Verdict) → n < length vs → first_fault vs ≡ Ok tt → first_fault (set vs n v) ≡ v
unfolding first_fault
lone_fault [] n v h e = absurd (omega arith)
lone_fault (w ∷ vs) zero v h e = ap (or_else v) (cons_fine w vs e).1 ∙ or_nothing v
lone_fault (w ∷ vs) (suc n) v h e =
    let z = cons_fine w vs e in
    ap (λ (u : Verdict). or_else u (first_fault (set vs n v))) z.0 ∙ lone_fault vs n v (omega arith) z.1

-- a test that passes is none
pub past_fine : (v : Verdict) (vs : List Verdict) → v ≡ Ok tt → first_fault (v ∷ vs) ≡ first_fault vs
unfolding first_fault
past_fine v vs e = ap (λ (u : Verdict). or_else u (first_fault vs)) e

-- in a scan: an entry of the same key in the place of another
module _ {A : Type 0} (test : List ℕ → ℕ → A → Verdict) (key : A → ℕ) (old new : A) (same : key new ≡ key old) where
  abbrev Scanned : List ℕ → ℕ → List A → Verdict
  Scanned seen i xs = scan test (λ seen x. seen ++ (key x ∷ [])) seen i xs

  pub scan_replaced : (seen : List ℕ) (i : ℕ) (xs ys : List A) → Scanned seen i (xs ++ (old ∷ ys)) ≡ Ok tt
      → Scanned seen i (xs ++ (new ∷ ys)) ≡ test (seen ++ map key xs) (i + length xs) new
  unfolding scan
  scan_replaced seen i [] ys e =
      let z = or_fine (test seen i old) _ e in
      let v : Verdict = test seen i new in
      ap (λ (k : ℕ). or_else v (Scanned (seen ++ (k ∷ [])) (suc i) ys)) same
      ∙ ap (or_else v) z.1 ∙ or_nothing v ∙ rw (append-nil, add-zero)
  scan_replaced seen i (x ∷ xs) ys e =
      let z = or_fine (test seen i x) _ e in
      let n : suc i + length xs ≡ i + suc (length xs) = omega arith in
      let m : (seen ++ (key x ∷ [])) ++ map key xs ≡ seen ++ (key x ∷ map key xs) = append_assoc seen (key x ∷ []) (map key xs) in
      ap (λ (u : Verdict). or_else u (Scanned (seen ++ (key x ∷ [])) (suc i) (xs ++ (new ∷ ys)))) z.0
      ∙ scan_replaced (seen ++ (key x ∷ [])) (suc i) xs ys z.1
      ∙ ap (λ (k : ℕ). test ((seen ++ (key x ∷ [])) ++ map key xs) k new) n
      ∙ ap (λ (ks : List ℕ). test ks (i + suc (length xs)) new) m
