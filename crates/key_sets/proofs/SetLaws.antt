-- A set of keys in slots: what a key that is put there leaves. Assumes nothing.
use Prim.Native.Nat.{ℕ, zero, suc, ◌+◌}
use mathlib.Core.Path.{◌≡◌, refl, sym, ◌∙◌}
use mathlib.Core.List.{List}
use mathlib.Core.Bool.{Bool, true, false}
use native.Mathlib.Omega.{arith}
use borrow.Author.Tests.{ltb-true, ltb-false}
use lib.Dec.{ltb}
use lib.ListN.{length, get_or, set, replicate}
use lib.Seq.{get_or-set_same, get_or-set_other}
use Rattle.key_sets.specs.Sets.{first_slot, AllFree, Others, FirstFree, Held, KeyPut, Stands}
use Rattle.key_sets.specs.declared.Tried.TheVariants.{Goes, Came, NoRoom}

pub all_free : (n : ℕ) → AllFree (replicate n 0)
all_free zero s = refl
all_free (suc n) zero = refl
all_free (suc n) (suc s) = all_free n s

-- what a key that was looked for leaves
module _ (ps : List ℕ) (key : ℕ) where
  pub put_free : (at : ℕ) → FirstFree ps key at → KeyPut ps key (set ps at (key + 1)) Goes
  put_free at f =
      record {
        new = λ q. record { at = at; free = f; is = refl };
        came = λ q. absurd (let z : ◌≡◌ {A = ℕ} 0 1 = cc in omega arith);
      }

  pub put_taken : Held ps key → KeyPut ps key ps Came
  put_taken h = record { new = λ q. absurd (let z : ◌≡◌ {A = ℕ} 0 1 = cc in omega arith); came = λ q. h }

  pub put_nowhere : KeyPut ps key ps NoRoom
  put_nowhere =
      record {
        new = λ q. absurd (let z : ◌≡◌ {A = ℕ} 0 1 = cc in omega arith);
        came = λ q. absurd (let z : ◌≡◌ {A = ℕ} 0 1 = cc in omega arith);
      }

-- PUTS
module _ (ps : List ℕ) (key at : ℕ) (f : FirstFree ps key at) where
  -- what a slot holds that is not the one put into
  slot_kept : (s : ℕ) → (s ≡ at → ⊥) → get_or (set ps at (key + 1)) s 0 ≡ get_or ps s 0
  slot_kept s n = get_or-set_other ps at s (key + 1) 0 n

  slot_put : get_or (set ps at (key + 1)) at 0 ≡ key + 1
  slot_put = get_or-set_same ps at (key + 1) 0 f.inside

  free_other : (s : ℕ) → get_or (set ps at (key + 1)) s 0 ≡ 0 → s ≡ at → ⊥
  free_other s e q =
      let z : get_or (set ps at (key + 1)) at 0 ≡ 0 = rw q at e in
      omega (arith, slot_put)

  -- a key that stood still does
  pub still_stands : (slots other : ℕ) → Stands slots ps other → Stands slots (set ps at (key + 1)) other
  still_stands slots other st s l h e o = st s l h (sym (slot_kept s (free_other s e)) ∙ e) old
    where
      old : Others ps other (first_slot slots other) s
      old x m g q =
          let n : x ≡ at → ⊥ = λ z. (let k : get_or ps at 0 ≡ other + 1 = rw z at q in omega (arith, f.free)) in
          o x m g (slot_kept x n ∙ q)

  -- and the new one stands
  pub now_stands : Stands (length ps) (set ps at (key + 1)) key
  now_stands s l h e o = go (ltb at s) refl
    where
      go : (b : Bool) → ltb at s ≡ b → ⊥
      go true q = o at f.low (ltb-true at s q) slot_put
      go false q =
          f.none s l (omega (arith, ltb-false at s q, free_other s e)) (sym (slot_kept s (free_other s e)) ∙ e)

  -- a slot holds what it held, or the new key
  pub holds_still : (s other : ℕ) → get_or (set ps at (key + 1)) s 0 ≡ other + 1 → (s ≡ at → ⊥) → get_or ps s 0 ≡ other + 1
  holds_still s other e n = sym (slot_kept s n) ∙ e

  pub holds_new : (s other : ℕ) → get_or (set ps at (key + 1)) s 0 ≡ other + 1 → s ≡ at → key ≡ other
  holds_new s other e q =
      let z : get_or (set ps at (key + 1)) at 0 ≡ other + 1 = rw q at e in
      omega (arith, slot_put)
