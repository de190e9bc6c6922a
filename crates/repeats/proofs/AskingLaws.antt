-- All classes of keys asked, one after the other. Assumes nothing.
use Prim.Native.Nat.{ℕ, ◌+◌, ◌<◌}
use mathlib.Core.Path.{◌≡◌, refl}
use mathlib.Core.List.{List}
use mathlib.Core.Bool.{Bool, true, false}
use native.Mathlib.Omega.{arith}
use borrow.Author.Tests.{ltb-true, ltb-false}
use lib.Dec.{ltb}
use Rattle.key_classes.specs.Classes.{CameAgain, ClearTo, ClassLeft}
use Rattle.repeats.specs.Asking.{Asking}

module _ (classes : ℕ) (ks : List ℕ) (used : ℕ) where
  pub one_class : (class upto n : ℕ) → Asking classes ks used class upto → ClassLeft classes class ks upto n → Asking classes ks used (class + 1) n
  one_class class upto n x l =
      record {
        clear = λ d h. go d h (ltb d class) refl;
        again = λ h. again h (ltb n upto) refl;
      }
    where
      go : (d : ℕ) → d < class + 1 → (b : Bool) → ltb d class ≡ b → ClearTo classes d ks n
      go d h true q = λ j g. x.clear d (ltb-true d class q) j (omega (arith, l.most))
      go d h false q =
          let z : d ≡ class = omega (arith, ltb-false d class q) in
          rw z l.clear

      again : n < used → (b : Bool) → ltb n upto ≡ b → CameAgain ks n
      again h true q = l.again (ltb-true n upto q)
      again h false q =
          let z : n ≡ upto = omega (arith, ltb-false n upto q, l.most) in
          rw z (x.again (omega arith))
