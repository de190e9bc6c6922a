-- Rows and their blocks, cut at the first row that opens a service's block: what stands before it and behind its block. Laws of lists. Assumes nothing.
use Rattle.std.specs.Prelude.{Some}
use Prim.Native.Nat.{ℕ, zero, suc, ◌-◌, ◌≤◌}
use mathlib.Core.Path.{◌≡◌, refl, ap, sym, ◌∙◌}
use mathlib.Core.List.{List, [], ◌∷◌, ◌++◌, map}
use mathlib.Core.Bool.{Bool, true, false, ◌&&◌, cond, true≢false}
use native.Mathlib.Omega.{arith}
use lib.Dec.{eqb}
use lib.ListN.{length, take, drop}
use Rattle.iff.specs.Lists.{front, groups, flat, any, kept, position}
use Rattle.iff.specs.Tables.{Row, word, is_hash_row, keys_of, first_row}
use Rattle.iff.specs.Words.{named}
use Rattle.iff.specs.declared.File.TheVariants.{Timetbls}
use Rattle.iff_desk.specs.Amend.{place_of, rows_before, rows_behind}
use Rattle.tables.proofs.First.{first_passing}
use Rattle.std.specs.Option.{is_some}
use Rattle.store.proofs.FirstLaws.{opens}

-- what stands before the first block, and the rest
front_rest : (rs : List Row) → front is_hash_row rs ++ drop (length (front is_hash_row rs)) rs ≡ rs
unfolding front
front_rest [] = refl
front_rest (r ∷ rs) = go (is_hash_row r) (front_rest rs)
  where
    go : (b : Bool) → front is_hash_row rs ++ drop (length (front is_hash_row rs)) rs ≡ rs
        → cond b [] (r ∷ front is_hash_row rs) ++ drop (length (cond b [] (r ∷ front is_hash_row rs))) (r ∷ rs) ≡ r ∷ rs
    go true e = refl
    go false e = ap (λ (l : List Row). r ∷ l) e

-- all blocks one after the other are that rest
flat_groups : (rs : List Row) → flat (groups is_hash_row rs) ≡ drop (length (front is_hash_row rs)) rs
unfolding flat groups front
flat_groups [] = refl
flat_groups (r ∷ rs) = go (is_hash_row r) (flat_groups rs)
  where
    go : (b : Bool) → flat (groups is_hash_row rs) ≡ drop (length (front is_hash_row rs)) rs
        → flat (cond b (record { top = r; rest = front is_hash_row rs } ∷ groups is_hash_row rs) (groups is_hash_row rs))
        ≡ drop (length (cond b [] (r ∷ front is_hash_row rs))) (r ∷ rs)
    go true e = ap (λ (l : List Row). r ∷ l) (ap (λ (l : List Row). front is_hash_row rs ++ l) e ∙ front_rest rs)
    go false e = e

module _ (s : ℕ) where
  -- row i is the first that opens the service's block
  abbrev pub FirstAt : List Row → ℕ → Type 0
  FirstAt [] i = ⊥
  FirstAt (r ∷ rs) zero = opens s r ≡ true
  FirstAt (r ∷ rs) (suc i) = (opens s r ≡ false) × FirstAt rs i

  pub first_at : (k : ℕ) (rs : List Row) (i : ℕ) → first_row (opens s) k rs ≡ Some i → FirstAt rs (i - k)
  unfolding first_row
  first_at k [] i e = absurd (true≢false (sym (ap is_some e)))
  first_at k (r ∷ rs) i e = go (opens s r) refl e (first_at (suc k) rs i)
    where
      go : (b : Bool) → opens s r ≡ b → cond b (Some k) (first_row (opens s) (suc k) rs) ≡ Some i
          → (first_row (opens s) (suc k) rs ≡ Some i → FirstAt rs (i - suc k)) → FirstAt (r ∷ rs) (i - k)
      go true q e ih =
          let n : k ≡ i = cc in
          let z : i - k ≡ 0 = omega arith in
          rw z q
      go false q e ih =
          let h = (first_passing (opens s) (suc k) rs i e).0 in
          let z : i - k ≡ suc (i - suc k) = omega arith in
          rw z (q, ih e)

  -- the blocks before it are as many as the keys before it
  pub record Cut (rs : List Row) (i : ℕ) : Type 0 where
    pub place : place_of s rs ≡ length (keys_of Timetbls (take i rs))
    pub before : rows_before (place_of s rs) rs ≡ take i rs
    pub behind : rows_behind (place_of s rs) rs ≡ drop (length (front is_hash_row (drop (suc i) rs))) (drop (suc i) rs)
    pub seen : take (place_of s rs) (keys_of Timetbls rs) ≡ keys_of Timetbls (take i rs)
    pub new : any (opens s) (take i rs) ≡ false

  cut_here : (r : Row) (rs : List Row) (a b : Bool) → is_hash_row r ≡ a → eqb (named r) s ≡ b → (a && b) ≡ true → Cut (r ∷ rs) zero
  unfolding front groups flat kept position any
  cut_here r rs true true p q e =
      record {
        place = rw (p, q);
        before = rw (p, q);
        behind = rw (p, q) (flat_groups rs);
        seen = rw (p, q);
        new = refl;
      }
  cut_here r rs true false p q e = absurd (true≢false (sym e))
  cut_here r rs false b p q e = absurd (true≢false (sym e))

  cut_later : (r : Row) (rs : List Row) (i : ℕ) (a b : Bool) → is_hash_row r ≡ a → eqb (named r) s ≡ b → (a && b) ≡ false → Cut rs i → Cut (r ∷ rs) (suc i)
  unfolding front groups flat kept position any
  cut_later r rs i true true p q e c = absurd (true≢false e)
  cut_later r rs i true false p q e c =
      record {
        place = rw (p, q) (ap suc c.place);
        before = rw (p, q) (ap (λ (l : List Row). r ∷ l) c.before);
        behind = rw (p, q) c.behind;
        seen = rw (p, q) (ap (λ (l : List ℕ). word r 1 ∷ l) c.seen);
        new = rw (p, q) c.new;
      }
  cut_later r rs i false b p q e c =
      record {
        place = rw p c.place;
        before = rw p (ap (λ (l : List Row). r ∷ l) c.before);
        behind = rw p c.behind;
        seen = rw p c.seen;
        new = rw p c.new;
      }

  pub cut_at : (rs : List Row) (i : ℕ) → FirstAt rs i → Cut rs i
  cut_at [] i h = absurd h
  cut_at (r ∷ rs) zero h = cut_here r rs (is_hash_row r) (eqb (named r) s) refl refl h
  cut_at (r ∷ rs) (suc i) h = cut_later r rs i (is_hash_row r) (eqb (named r) s) refl refl h.0 (cut_at rs i h.1)

-- no more keys than rows
pub keys_few : (rs : List Row) → length (keys_of Timetbls rs) ≤ length rs
unfolding kept
keys_few [] = omega arith
keys_few (r ∷ rs) = go (is_hash_row r) (keys_few rs)
  where
    go : (b : Bool) → length (keys_of Timetbls rs) ≤ length rs
        → length (map (λ (r : Row). word r 1) (cond b (r ∷ kept is_hash_row rs) (kept is_hash_row rs))) ≤ suc (length rs)
    go true h = omega arith
    go false h = omega arith
