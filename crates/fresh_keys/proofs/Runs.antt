-- What a run of keys remembers of them. Laws of the definitions alone. Assumes nothing.
use Prim.Native.Nat.{ℕ, ◌<◌, ◌≤◌}
use mathlib.Core.Path.{◌≡◌, refl, sym, ◌∙◌}
use mathlib.Core.List.{List, [], ◌∷◌, ◌++◌}
use mathlib.Core.Bool.{Bool, true, false, ◌&&◌, cond, and-true, and_assoc, not, false≢true, true≢false}
use native.Mathlib.Omega.{arith}
use borrow.Author.Tests.{ltb-true, ne_eqb}
use lib.Dec.{ltb}
use Rattle.iff.specs.Lists.{any, has}
use Rattle.iff.specs.Refusals.{after}
use Rattle.iff.specs.Tables.{Row, word, key_word, keys_of, rising}
use Rattle.iff.specs.declared.File.{File}
use Rattle.keys.specs.Lookup.{is_key_row}
use Rattle.keys.proofs.Fills.{keys_next}
use Rattle.fresh_keys.specs.declared.KeyRun.{KeyRun}
use Rattle.fresh_keys.specs.Runs.{no_keys, still_rises, step_run, run_of}

-- after some keys more
pub run_append : (s : KeyRun) (ks ms : List ℕ) → after step_run s (ks ++ ms) ≡ after step_run (after step_run s ks) ms
unfolding after
run_append s [] ms = refl
run_append s (k ∷ ks) ms = run_append (step_run s k) ks ms

-- one key more
pub run_next : (ks : List ℕ) (k : ℕ) → run_of (ks ++ (k ∷ [])) ≡ step_run (run_of ks) k
unfolding after
run_next ks k = run_append no_keys ks (k ∷ [])

-- one row more, which names something
pub run_key : (f : File) (rs : List Row) (r : Row) → is_key_row f r ≡ true
    → run_of (keys_of f (rs ++ (r ∷ []))) ≡ step_run (run_of (keys_of f rs)) (word r (key_word f))
run_key f rs r e = rw (keys_next f rs r e) (run_next (keys_of f rs) (word r (key_word f)))

-- the run whose last key is l
abbrev from : Bool → ℕ → KeyRun
from b l = record { any = true; rises = b; last = l }

any_from : (b : Bool) (l : ℕ) (ks : List ℕ) → (after step_run (from b l) ks).any ≡ true
unfolding after
any_from b l [] = refl
any_from b l (k ∷ ks) = any_from (b && ltb l k) k ks

rises_from : (b : Bool) (l : ℕ) (ks : List ℕ) → (after step_run (from b l) ks).rises ≡ (b && rising (l ∷ ks))
unfolding after rising
rises_from b l [] = sym (and-true b)
rises_from b l (k ∷ ks) = rises_from (b && ltb l k) k ks ∙ and_assoc b (ltb l k) (rising (k ∷ ks))

-- whether keys rise is known
pub run_rises : (ks : List ℕ) → (run_of ks).rises ≡ rising ks
unfolding after rising
run_rises [] = refl
run_rises (k ∷ ks) = rises_from true k ks

-- where none are counted there are none
pub run_none : (ks : List ℕ) → (run_of ks).any ≡ false → ks ≡ []
unfolding after
run_none [] e = refl
run_none (k ∷ ks) e = absurd (true≢false (sym (any_from true k ks) ∙ e))

pub and_left : (a b : Bool) → (a && b) ≡ true → a ≡ true
and_left true b e = refl
and_left false b e = e

pub and_right : (a b : Bool) → (a && b) ≡ true → b ≡ true
and_right true b e = e
and_right false b e = absurd (false≢true e)

-- while keys rise the last is the greatest, so what is above it is none of them
pub record Above (b : Bool) (l : ℕ) (ks : List ℕ) (last : ℕ) : Type 0 where
  pub rose : b ≡ true
  pub under : l ≤ last
  pub new : (k : ℕ) → last < k → has k (l ∷ ks) ≡ false

above_from : (b : Bool) (l : ℕ) (ks : List ℕ) → (after step_run (from b l) ks).rises ≡ true → Above b l ks (after step_run (from b l) ks).last
unfolding after any
above_from b l [] e = record { rose = e; under = omega arith; new = λ k h. rw (ne_eqb k l (λ q. omega arith)) }
above_from b l (m ∷ ks) e =
    let ih = above_from (b && ltb l m) m ks e in
    let q : l < m = ltb-true l m (and_right b (ltb l m) ih.rose) in
    record {
      rose = and_left b (ltb l m) ih.rose;
      under = omega arith;
      new = λ k h. rw (ne_eqb k l (λ z. omega (arith, ih.under))) (ih.new k h);
    }

pub run_above : (ks : List ℕ) (k : ℕ) → (run_of ks).any ≡ true → (run_of ks).rises ≡ true → (run_of ks).last < k → has k ks ≡ false
unfolding after any
run_above [] k a e h = refl
run_above (m ∷ ks) k a e h = (above_from true m ks e).new k h

-- a key with which they still rise is none of them
pub run_fresh : (ks : List ℕ) (k : ℕ) → still_rises (run_of ks) k ≡ true → has k ks ≡ false
unfolding any
run_fresh ks k e = go (run_of ks).any refl e
  where
    go : (b : Bool) → (run_of ks).any ≡ b → cond b ((run_of ks).rises && ltb (run_of ks).last k) (run_of ks).rises ≡ true → has k ks ≡ false
    go true a e = run_above ks k a (and_left _ _ e) (ltb-true _ _ (and_right (run_of ks).rises _ e))
    go false a e = rw (run_none ks a)

-- what `is_fresh` answers without a search
pub fresh_by_run : (s : KeyRun) (ks : List ℕ) (k : ℕ) → s ≡ run_of ks → (b : Bool) → b ≡ still_rises s k → b ≡ true → true ≡ not (has k ks)
fresh_by_run s ks k e b f g = rw (run_fresh ks k (rw e at (sym f ∙ g)))
