-- Keys that are asked class by class: where no class has one that came before, they are distinct. Assumes nothing.
use Prim.Native.Nat.{ℕ, zero, suc, ◌≤◌, ◌<◌}
use mathlib.Core.Path.{◌≡◌, refl, sym, ◌∙◌}
use mathlib.Core.List.{List, [], ◌∷◌, ◌++◌, append-nil, append_assoc}
use mathlib.Core.Bool.{Bool, true, false, not, ◌||◌, or-true, and-false}
use native.Mathlib.Omega.{arith}
use borrow.Author.Tests.{eqb-true, eq-eqb}
use lib.Dec.{eqb}
use lib.ListN.{length, get_or, take}
use lib.Seq.{get_or-take, length-take-le}
use Rattle.iff.specs.Lists.{any, has}
use Rattle.iff_desk.specs.Sound.{distinct, passes, followed_by}
use Rattle.repeats.specs.Repeats.{FirstRepeat, Told}
use Rattle.key_classes.specs.Classes.{class_of, CameBy}
use Rattle.repeats.specs.Asking.{Asking}
use Rattle.repeats.specs.declared.Repeats.TheVariants.{Never, First}
use Rattle.key_classes.proofs.ClassLaws.{class_below}

-- a key that came is among the first ones, and one that did not is not
came_has : (ks : List ℕ) (n at key : ℕ) → at < n → at < length ks → get_or ks at 0 ≡ key → has key (take n ks) ≡ true
unfolding any
came_has ks zero at key h l e = absurd (omega arith)
came_has [] (suc n) at key h l e = absurd (omega arith)
came_has (k ∷ ks) (suc n) zero key h l e = rw (eq-eqb key k (sym e))
came_has (k ∷ ks) (suc n) (suc at) key h l e = rw (came_has ks n at key (omega arith) (omega arith) e, or-true)

not_came : (ks : List ℕ) (n key : ℕ) → ((at : ℕ) → at < n → at < length ks → get_or ks at 0 ≡ key → ⊥) → has key (take n ks) ≡ false
unfolding any
not_came ks zero key h = refl
not_came [] (suc n) key h = refl
not_came (k ∷ ks) (suc n) key h = go (eqb key k) refl (not_came ks n key (λ at l m e. h (suc at) (omega arith) (omega arith) e))
  where
    go : (b : Bool) → eqb key k ≡ b → has key (take n ks) ≡ false → (b || has key (take n ks)) ≡ false
    go true q e = absurd (h 0 (omega arith) (omega arith) (sym (eqb-true key k q)))
    go false q e = e

-- keys of which each is none of those before it
all_new_lem : (seen ks : List ℕ) → ((j : ℕ) → j < length ks → has (get_or ks j 0) (seen ++ take j ks) ≡ false)
    → passes (λ seen k. not (has k seen)) followed_by seen ks ≡ true
unfolding passes
all_new_lem seen [] h = refl
all_new_lem seen (k ∷ ks) h =
    let n : has k seen ≡ false = rw append-nil at (h 0 (omega arith)) in
    rw n (all_new_lem (seen ++ (k ∷ [])) ks (λ j l. rw append_assoc (h (suc j) (omega arith))))

new_distinct : (ks : List ℕ) → ((j : ℕ) → j < length ks → CameBy ks j (get_or ks j 0) → ⊥) → distinct ks ≡ true
unfolding distinct
new_distinct ks h =
    all_new_lem [] ks (λ j l. not_came ks j (get_or ks j 0) (λ at m g e. h j l (record { at = at; before = m; is = e })))

-- keys of which one is one of those before it
one_again : (seen ks : List ℕ) (j : ℕ) → j < length ks → has (get_or ks j 0) (seen ++ take j ks) ≡ true
    → passes (λ seen k. not (has k seen)) followed_by seen ks ≡ false
unfolding passes
one_again seen [] j l e = absurd (omega arith)
one_again seen (k ∷ ks) zero l e =
    let n : has k seen ≡ true = rw append-nil at e in
    rw n
one_again seen (k ∷ ks) (suc j) l e =
    let n : has (get_or ks j 0) ((seen ++ (k ∷ [])) ++ take j ks) ≡ true = rw append_assoc e in
    rw (one_again (seen ++ (k ∷ [])) ks j (omega arith) n, and-false)

pub again_not_distinct : (ks : List ℕ) (j : ℕ) → FirstRepeat ks j → distinct ks ≡ false
unfolding distinct
again_not_distinct ks j x = one_again [] ks j x.inside x.again

-- ALL CLASSES
module _ (classes : ℕ) (some : 0 < classes) (ks : List ℕ) (used class n : ℕ) (all : classes ≤ class) (x : Asking classes ks used class n) where
  none_came : (j : ℕ) → j < n → j < length ks → CameBy ks j (get_or ks j 0) → ⊥
  none_came j h l = x.clear (class_of classes (get_or ks j 0)) (omega (arith, class_below classes (get_or ks j 0) some)) j h l refl

  first_distinct : n ≤ length ks → distinct (take n ks) ≡ true
  first_distinct g = new_distinct (take n ks) go
    where
      go : (j : ℕ) → j < length (take n ks) → CameBy (take n ks) j (get_or (take n ks) j 0) → ⊥
      go j l c =
          let h : j < n = omega (arith, length-take-le n ks g) in
          none_came j h (omega arith)
          (record {
            at = c.at;
            before = c.before;
            is = sym (get_or-take n ks c.at 0 (omega (arith, c.before))) ∙ (c.is ∙ get_or-take n ks j 0 h);
          })

  pub told_first : n < used → Told ks (First n)
  told_first h =
      let a = x.again h in
      let b = a.came in
      record {
        never = λ q. absurd (let z : ◌≡◌ {A = ℕ} 0 1 = cc in omega arith);
        first = λ j q.
            let z : n ≡ j = cc in
            rw (← z)
            (record {
              inside = a.inside;
              before = first_distinct (omega (arith, a.inside));
              again = came_has ks n b.at (get_or ks n 0) b.before (omega (arith, b.before, a.inside)) b.is;
            });
      }

  pub told_never : length ks ≤ used → used ≤ n → Told ks Never
  told_never few h =
      record {
        never = λ q. new_distinct ks (λ j l. none_came j (omega arith) l);
        first = λ j q. absurd (let z : ◌≡◌ {A = ℕ} 0 1 = cc in omega arith);
      }
