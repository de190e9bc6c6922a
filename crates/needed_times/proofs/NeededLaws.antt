-- The verdict on a gap leans on no more than was looked for. Assumes nothing.
use Rattle.std.specs.Prelude.{None, Option, Some}
use Prim.Native.Nat.{ℕ}
use mathlib.Core.Path.{◌≡◌, ap, ◌∙◌}
use mathlib.Core.List.{List}
use lib.IntN.{ℤ}
use Rattle.iff.specs.Files.{PerFile}
use Rattle.iff.specs.Tables.{Row}
use Rattle.iff_desk.specs.Changing.{best_at, core}
use Rattle.iff_desk.specs.declared.Riding.{Riding}
use Rattle.iff_desk.specs.declared.Best.{Best}

pub same_best : (R : PerFile (List Row)) (station d : ℕ) (x x' y y' : Riding) → x ≡ x' → y ≡ y' → best_at R station x y d ≡ best_at R station x' y' d
same_best R station d x x' y y' p q = ap (λ (z : Riding). best_at R station z y d) p ∙ ap (λ (z : Riding). best_at R station x' z d) q

module _ (gap : ℤ) where
  pub same_verdict : (f f' : ℕ) (b b' : Option Best) (t t' : ℕ) → f ≡ f' → b ≡ b' → t ≡ t' → core gap None f b t ≡ core gap None f' b' t'
  same_verdict f f' b b' t t' p q r =
      ap (λ (x : ℕ). core gap None x b t) p ∙ ap (λ (x : Option Best). core gap None f' x t) q ∙ ap (λ (x : ℕ). core gap None f' b' x) r

  module _ (flag : ℕ) (best : Option Best) (time : ℕ) where
    -- a pair needs neither the station's row nor a best exception, and a flag 0 no exception
    pub pair_alone : (pair : Option ℕ) (p : ℕ) → pair ≡ Some p → core gap (Some p) 0 None 0 ≡ core gap pair flag best time
    unfolding core
    pair_alone pair p e = rw e

    pub flag_alone : flag ≡ 0 → core gap None 0 None 0 ≡ core gap None flag best time
    unfolding core
    flag_alone e = rw e

    pub no_pair : (pair : Option ℕ) → pair ≡ None → core gap None flag best time ≡ core gap pair flag best time
    no_pair pair e = rw e
