-- Laws of services one after the other: whether each is new, or which is the first that came before. Assumes nothing.
use Rattle.std.specs.Prelude.{Err, Ok}
use Prim.Native.Nat.{ℕ, suc, ◌+◌}
use mathlib.Core.Path.{◌≡◌, refl, ap, sym, ◌∙◌}
use mathlib.Core.List.{List, [], ◌∷◌, ◌++◌, append_assoc, append-nil}
use mathlib.Core.Bool.{true, not}
use native.Mathlib.Nat.{add-zero}
use native.Mathlib.Omega.{arith}
use lib.ListN.{length, get_or, take, drop}
use lib.Seq.{split_at, length-take-le}
use Rattle.iff.specs.Lists.{has}
use Rattle.iff.specs.Refusals.{or_else, scan, after, Verdict, at_place, fault_at}
use Rattle.iff.specs.declared.File.TheVariants.{Timetbls}
use Rattle.iff.specs.declared.Reason.TheVariants.{Duplicate}
use Rattle.iff_desk.specs.Sound.{passes, followed_by, distinct}
use Rattle.iff_laws.specs.ScanLaws.{or_nothing}
use Rattle.iff_laws.specs.TruthLaws.{both}
use Rattle.repeats.specs.Repeats.{FirstRepeat}
use Rattle.block_puts.specs.Puts.{new_verdict}
use Rattle.block_walks.specs.Blocks.{services_verdict}

-- VERDICTS IN TURN
pub or_assoc : (u v w : Verdict) → or_else u (or_else v w) ≡ or_else (or_else u v) w
or_assoc (Ok _) v w = refl
or_assoc (Err fault) v w = refl

module _ {S A : Type 0} (test : S → ℕ → A → Verdict) (next : S → A → S) where
  scan_append : (st : S) (i : ℕ) (xs ys : List A)
      → scan test next st i (xs ++ ys) ≡ or_else (scan test next st i xs) (scan test next (after next st xs) (i + length xs) ys)
  unfolding scan after
  scan_append st i [] ys = ap (λ (n : ℕ). scan test next st n ys) (sym (add-zero i))
  scan_append st i (x ∷ xs) ys =
      let n : suc i + length xs ≡ i + suc (length xs) = omega arith in
      ap (or_else (test st i x))
      (scan_append (next st x) (suc i) xs ys
      ∙ ap (λ (m : ℕ). or_else (scan test next (next st x) (suc i) xs) (scan test next (after next (next st x) xs) m ys)) n)
      ∙ or_assoc (test st i x) (scan test next (next st x) (suc i) xs) (scan test next (after next (next st x) xs) (i + suc (length xs)) ys)

-- SERVICES
after_all : (seen ks : List ℕ) → after followed_by seen ks ≡ seen ++ ks
unfolding after
after_all seen [] = sym (append-nil seen)
after_all seen (k ∷ ks) = after_all (followed_by seen k) ks ∙ append_assoc seen (k ∷ []) ks

parted : (ks : List ℕ) (k : ℕ) (qs : List ℕ)
    → services_verdict (ks ++ (k ∷ qs))
    ≡ or_else (services_verdict ks) (or_else (new_verdict ks (1 + length ks) k) (scan new_verdict followed_by (ks ++ (k ∷ [])) (suc (1 + length ks)) qs))
unfolding services_verdict scan
parted ks k qs =
    scan_append new_verdict followed_by [] 1 ks (k ∷ qs)
    ∙ ap (λ (seen : List ℕ). or_else (scan new_verdict followed_by [] 1 ks) (scan new_verdict followed_by seen (1 + length ks) (k ∷ qs))) (after_all [] ks)

-- none yet
pub services_none : services_verdict [] ≡ Ok tt
unfolding services_verdict scan
services_none = refl

-- one more
pub services_next : (ks : List ℕ) (k o : ℕ) → o ≡ suc (length ks) → services_verdict (ks ++ (k ∷ [])) ≡ or_else (services_verdict ks) (new_verdict ks o k)
unfolding scan
services_next ks k o e =
    let n : 1 + length ks ≡ o = omega arith in
    parted ks k [] ∙ ap (or_else (services_verdict ks)) (or_nothing (new_verdict ks (1 + length ks) k) ∙ ap (λ (i : ℕ). new_verdict ks i k) n)

-- of which each is new
new_from : (seen : List ℕ) (o : ℕ) (ks : List ℕ) → passes (λ seen k. not (has k seen)) followed_by seen ks ≡ true → scan new_verdict followed_by seen o ks ≡ Ok tt
unfolding scan passes
new_from seen o [] e = refl
new_from seen o (k ∷ ks) e =
    let p = both (not (has k seen)) (passes (λ seen k. not (has k seen)) followed_by (followed_by seen k) ks) e in
    rw p.0 (new_from (followed_by seen k) (suc o) ks p.1)

pub all_new_lem : (ks : List ℕ) → distinct ks ≡ true → services_verdict ks ≡ Ok tt
unfolding services_verdict distinct
all_new_lem ks e = new_from [] 1 ks e

-- or of which one is the first that came before
pub one_again : (ks : List ℕ) (j o : ℕ) → FirstRepeat ks j → o ≡ j + 1 → services_verdict ks ≡ fault_at Duplicate (at_place Timetbls o 1)
one_again ks j o f e =
    let n : length (take j ks) ≡ j = length-take-le j ks (omega (arith, f.inside)) in
    let m : 1 + length (take j ks) ≡ o = omega arith in
    ap services_verdict (split_at ks j 0 f.inside)
    ∙ parted (take j ks) (get_or ks j 0) (drop (suc j) ks)
    ∙ rw (all_new_lem (take j ks) f.before, f.again, m)
