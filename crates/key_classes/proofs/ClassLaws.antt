-- One class of keys asked by a set: a key that is new is put there, and one that is found there came before. Assumes nothing.
use Rattle.std.specs.Prelude.{None, Some}
use Prim.Native.Nat.{ℕ, suc, ◌+◌, ◌≤◌, ◌<◌}
use mathlib.Core.Path.{◌≡◌, refl, ap, ◌∙◌}
use mathlib.Core.List.{List}
use mathlib.Core.Bool.{Bool, true, false}
use native.Mathlib.Nat.{mod-lt}
use native.Mathlib.Omega.{arith}
use borrow.Author.Tests.{ltb-true, ltb-false, eqb-true, eqb-false}
use lib.Dec.{ltb, eqb}
use lib.ListN.{length, get_or, set, length-set}
use Rattle.key_sets.specs.Sets.{AllFree, FirstFree, Held, KeyPut, Stands}
use Rattle.key_classes.specs.Classes.{class_of, CameBy, ClearTo, KeyTried, ClassLeft, ClassAsked, SetOf}
use Rattle.key_sets.specs.declared.Tried.{Tried}
use Rattle.key_sets.specs.declared.Tried.TheVariants.{Goes}
use Rattle.key_sets.proofs.SetLaws.{still_stands, now_stands, holds_still, holds_new}

pub class_below : (classes key : ℕ) → 0 < classes → class_of classes key < classes
unfolding class_of
class_below classes key h = mod-lt _ h

-- a key that came is among more keys too
pub came_still : {ks : List ℕ} {n key : ℕ} (m : ℕ) → n ≤ m → CameBy ks n key → CameBy ks m key
came_still m h c = record { at = c.at; before = omega (arith, c.before); is = c.is }

-- ONE KEY
module _ (classes class : ℕ) (ps : List ℕ) (key : ℕ) where
  pub tried_here : (r : Tried) (qs : List ℕ) → class_of classes key ≡ class → KeyPut ps key qs r → KeyTried classes class ps key qs r
  tried_here r qs e p = record { here = λ q y. p.new q; elsewhere = λ q n. absurd (n e); came = p.came }

  pub tried_elsewhere : (class_of classes key ≡ class → ⊥) → KeyTried classes class ps key ps Goes
  tried_elsewhere n =
      record {
        here = λ q y. absurd (n y);
        elsewhere = λ q m. refl;
        came = λ q. absurd (let z : ◌≡◌ {A = ℕ} 0 1 = cc in omega arith);
      }

module _ (classes class : ℕ) (ks : List ℕ) where
  pub none_held : (ps : List ℕ) → AllFree ps → SetOf classes class ks 0 (length ps) ps
  none_held ps f =
      record {
        wide = refl;
        stands = λ j h. absurd (omega arith);
        only = λ s key e. absurd (omega (arith, f s));
      }

  pub none_asked : ClearTo classes class ks 0
  none_asked j h = absurd (omega arith)

  module _ (n slots : ℕ) (ps : List ℕ) (x : SetOf classes class ks n slots ps) (key : ℕ) (is : get_or ks n 0 ≡ key) where
    -- a free slot before any that holds the key: it is new
    pub new_by_free : (at : ℕ) → FirstFree ps key at → class_of classes key ≡ class → CameBy ks n key → ⊥
    new_by_free at f e c =
        let q : Stands slots ps (get_or ks c.at 0) = x.stands c.at c.before (ap (class_of classes) c.is ∙ e) in
        (rw (c.is, ← x.wide) at q) at f.low f.high f.free f.others

    -- a key that is held came
    pub held_came : Held ps key → CameBy ks n key
    held_came h = x.only h.at key h.is

    -- one key more in the set, or none of the class
    pub put_held : (at : ℕ) → FirstFree ps key at → SetOf classes class ks (suc n) slots (set ps at (key + 1))
    put_held at f =
        record {
          wide = length-set ps at (key + 1) ∙ x.wide;
          stands = λ j h e. stood j h (ltb j n) refl e;
          only = λ s other e. held s other e (eqb s at) refl;
        }
      where
        stood : (j : ℕ) → j < suc n → (b : Bool) → ltb j n ≡ b → class_of classes (get_or ks j 0) ≡ class
            → Stands slots (set ps at (key + 1)) (get_or ks j 0)
        stood j h true q e = still_stands ps key at f slots (get_or ks j 0) (x.stands j (ltb-true j n q) e)
        stood j h false q e =
            let z : j ≡ n = omega (arith, ltb-false j n q) in
            rw (z, is, ← x.wide) (now_stands ps key at f)

        held : (s other : ℕ) → get_or (set ps at (key + 1)) s 0 ≡ other + 1 → (b : Bool) → eqb s at ≡ b → CameBy ks (suc n) other
        held s other e true q =
            record { at = n; before = omega arith; is = is ∙ holds_new ps key at f s other e (eqb-true s at q) }
        held s other e false q = came_still (suc n) (omega arith) (x.only s other (holds_still ps key at f s other e (eqb-false s at q)))

    pub other_held : (class_of classes key ≡ class → ⊥) → SetOf classes class ks (suc n) slots ps
    other_held ne =
        record {
          wide = x.wide;
          stands = λ j h e. stood j h (ltb j n) refl e;
          only = λ s other e. came_still (suc n) (omega arith) (x.only s other e);
        }
      where
        stood : (j : ℕ) → j < suc n → (b : Bool) → ltb j n ≡ b → class_of classes (get_or ks j 0) ≡ class → Stands slots ps (get_or ks j 0)
        stood j h true q e = x.stands j (ltb-true j n q) e
        stood j h false q e =
            let z : j ≡ n = omega (arith, ltb-false j n q) in
            absurd (ne (rw (z, is) at e))

    -- one key more that did not come before
    one_clear : ClearTo classes class ks n → (class_of classes key ≡ class → CameBy ks n key → ⊥) → ClearTo classes class ks (suc n)
    one_clear c new j h l e = go (ltb j n) refl
      where
        go : (b : Bool) → ltb j n ≡ b → CameBy ks j (get_or ks j 0) → ⊥
        go true q = c j (ltb-true j n q) l e
        go false q =
            let z : j ≡ n = omega (arith, ltb-false j n q) in
            rw (z, is) (new (rw (z, is) at e))

    module _ (qs : List ℕ) (p : KeyTried classes class ps key qs Goes) where
      pub key_held : SetOf classes class ks (suc n) slots qs
      key_held = go (eqb (class_of classes key) class) refl
        where
          go : (b : Bool) → eqb (class_of classes key) class ≡ b → SetOf classes class ks (suc n) slots qs
          go true q =
              let w = p.here refl (eqb-true (class_of classes key) class q) in
              rw w.is (put_held w.at w.free)
          go false q =
              let ne = eqb-false (class_of classes key) class q in
              rw (p.elsewhere refl ne) (other_held ne)

      pub key_clear : ClearTo classes class ks n → ClearTo classes class ks (suc n)
      key_clear c = one_clear c (λ e. let w = p.here refl e in new_by_free w.at w.free e)

-- ONE CLASS
module _ (classes class : ℕ) (ks : List ℕ) (upto : ℕ) where
  pub asked : (n : ℕ) → ClassLeft classes class ks upto n → ClassAsked classes class ks upto (Some n)
  asked n x = record { left = λ m q. let z : n ≡ m = cc in rw (← z) x }

  pub not_asked : ClassAsked classes class ks upto None
  not_asked = record { left = λ m q. absurd (let z : ◌≡◌ {A = ℕ} 0 1 = cc in omega arith) }

  -- all that were left are asked
  pub asked_all : (n : ℕ) → ClearTo classes class ks n → ((j : ℕ) → j < upto → j < length ks → j < n) → ClassAsked classes class ks upto (Some upto)
  asked_all n c all = asked upto (record { most = omega arith; clear = λ j h l. c j (all j h l) l; again = λ h. absurd (omega arith) })

  -- or those before one that came
  pub asked_again : (n : ℕ) → n < upto → n < length ks → ClearTo classes class ks n → CameBy ks n (get_or ks n 0) → ClassAsked classes class ks upto (Some n)
  asked_again n h l c a = asked n (record { most = omega arith; clear = c; again = λ g. record { inside = l; came = a } })
